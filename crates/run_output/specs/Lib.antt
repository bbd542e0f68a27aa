pub mod FilterStats
pub mod JsonLaws
pub mod LineLaws
pub mod Lines
pub mod ReportLaws
pub mod Reports
pub mod SelfRun
pub mod Wanted
