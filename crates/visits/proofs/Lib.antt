pub mod CodeVisitLaws
pub mod CodePassLaws
pub mod CodeDocumentLaws
pub mod CodeStyledLaws
pub mod CodeTellLaws
