-- The laws of forms.
pub mod ByteLaws
pub mod FormLaws
pub mod ListLaws
pub mod OutcomeLaws
