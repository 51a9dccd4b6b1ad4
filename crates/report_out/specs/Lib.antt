pub mod LineFeeds
pub mod Report
