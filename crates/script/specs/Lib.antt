-- Definitions first, then the laws of them.
pub mod WholeLog
pub mod Session
pub mod Pieces
pub mod ToCome
pub mod WholeLogLaws
pub mod LineLaws
pub mod SessionLaws
pub mod RoomLaws
pub mod ToComeLaws
pub mod PiecesLaws
pub mod ProgressLaws
