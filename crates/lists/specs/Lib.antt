-- Lists of numbers and tables: the names that other crates use.
pub mod Test
pub mod Count
pub mod Order
pub mod Table
pub mod TestLaws
pub mod CountLaws
pub mod OrderLaws
pub mod BeforeLaws
pub mod TableLaws
pub mod FirstLaws
pub mod FillLaws
pub mod LoopLaws
pub mod OperatorLaws
