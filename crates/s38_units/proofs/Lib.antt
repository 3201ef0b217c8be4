pub mod CountLaws
pub mod KeptLaws
pub mod OpenLaws
pub mod UnitLaws
