pub mod UserLaws
