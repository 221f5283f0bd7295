pub mod Choices
pub mod RandFields
pub mod KeyForms
pub mod BatchForms
pub mod PutForms
