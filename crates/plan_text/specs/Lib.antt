pub mod ScheduleText
