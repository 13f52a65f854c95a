-- Lists of task ids: the definitions that the contracts cite, and their laws.
pub mod TaskList
pub mod TaskListLaws
pub mod ItemLaws
