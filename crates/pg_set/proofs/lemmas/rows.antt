pub mod RowPlaces
pub mod RowNames
pub mod MeaningLaws
pub mod NamesOfRows
pub mod PartsMade
pub mod PlaceIds
pub mod PlacedRows
