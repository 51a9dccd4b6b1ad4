mod LineFeedLaws
mod ReportLaws
