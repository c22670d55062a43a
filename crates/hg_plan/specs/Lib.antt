pub mod Examples
pub mod Planning
pub mod PlanLaws
pub mod ReadLaws
pub mod Testing
