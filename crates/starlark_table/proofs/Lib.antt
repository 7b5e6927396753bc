pub mod Lists
pub mod Circle
pub mod Bag
pub mod Holders
pub mod EmptySearch
pub mod BackwardShift
pub mod TagCount
pub mod SlotTags
pub mod FilledSlots
mod LentSlots
pub mod TagBits
pub mod FullBits
pub mod EmptiedSlots
pub mod ClonedSlots
pub mod ProbeSequence
pub mod SearchState
pub mod Load
pub mod TableChanges
pub mod Sound
pub mod Shape
pub mod ClosureCalls
pub mod GroupReplacement
pub mod GroupDrain
pub mod RetainPass
pub mod BackwardShiftPass
pub mod PairBags
pub mod TableLemmas
mod TwoPartLoan
pub mod LentInResult
mod WrittenSlots
pub mod LoanNames
mod TableFields
pub mod UncrossedSlot
pub mod OverflowFilter
pub mod Vacancy
