-- The sizes and numbers of src/, for the rules; what lies past a table's end; a state with one of its parts changed.
pub mod Sizes
pub mod Kind
pub mod MessageKind
pub mod Word
pub mod Stage
pub mod Desk
pub mod Reason
pub mod Refusal
pub mod State
