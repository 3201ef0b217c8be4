mod KeepLaws
mod InstallLaws
mod OpenLaws
mod StrayLaws
mod FilteredLists
mod RemovedParts
pub mod CrashLaws
mod WatchLaws
mod SureLaws
mod RoomLaws
