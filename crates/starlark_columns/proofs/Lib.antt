mod SendSync
mod Memory
mod RowValues
mod Layouts
mod CellsOfSlots
mod LentCells
pub mod PairParts
pub mod EntryParts
pub mod ItemsAtFront
pub mod NamedLoan
pub mod ItemsBetween
pub mod LoneValue
pub mod LentParts
pub mod Addresses
pub mod LogicNames
pub mod ProofSteps
