pub mod Run
pub mod Demand3
pub mod Zeros
pub mod UniqueAcross
pub mod Assembled
pub mod ReportRun
pub mod ClassRun
