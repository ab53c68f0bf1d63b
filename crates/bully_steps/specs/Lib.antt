pub mod Point
pub mod PointKind
pub mod NextPoint
pub mod ProcedureState
pub mod States
pub mod Procedure
pub mod Prepared
pub mod Driver
