-- Laws of the definitions in specs/.
pub mod WordsLaws
pub mod FilledLaws
pub mod RingLaws
pub mod PutLaws
pub mod TakeLaws
pub mod SwapLaws
pub mod StartsLaws
pub mod HeldLaws
