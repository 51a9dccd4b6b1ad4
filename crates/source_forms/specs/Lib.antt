pub mod ExprForms
pub mod Forms
pub mod ItemForms
pub mod LeftForms
pub mod PatternForms
pub mod TermForms
pub mod TypeForms
