pub mod TableLaws
pub mod HintLaws
pub mod CodeFailLaws
pub mod CodeStayLaws
pub mod CodeStepLaws
pub mod CodeSkipLaws
