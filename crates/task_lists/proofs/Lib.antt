-- What the function proofs share.
pub mod Laws
