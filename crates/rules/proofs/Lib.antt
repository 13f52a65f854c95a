-- Laws of the definitions in specs/.
pub mod LevelLaws
pub mod FactsLaws
pub mod QueueLaws
pub mod SettleLaws
pub mod WaiterLaws
pub mod MessageLaws
pub mod CreationLaws
pub mod StepLaws
pub mod SoundLaws
pub mod RefusalLaws
pub mod AgreeLaws
pub mod DemandLaws
pub mod OutcomeLaws
pub mod KeptLaws
pub mod WokenLaws
pub mod LinkLaws
