-- What is planned for a request on a record that was tested before, and its laws.
pub mod Planning
pub mod PlanningLaws
