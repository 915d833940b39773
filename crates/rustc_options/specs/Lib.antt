pub mod Splitting
pub mod Sets
pub mod Data
pub mod Printed
pub mod Table
pub mod Asks
pub mod Sorted
pub mod SortedLaws
