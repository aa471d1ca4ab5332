pub mod WorkedNotes
