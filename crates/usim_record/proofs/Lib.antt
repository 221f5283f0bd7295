pub mod OnLists
