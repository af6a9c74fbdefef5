pub mod PiecesLaws
pub mod Rows
