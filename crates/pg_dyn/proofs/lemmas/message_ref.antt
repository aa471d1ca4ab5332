pub mod BorrowedItems
pub mod BorrowedParts
