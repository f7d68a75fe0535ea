mod Common
pub mod Examples
pub mod ExchangeLaws
pub mod FindLaws
pub mod GrowLaws
pub mod InPlaceLaws
pub mod KeptLaws
pub mod ListLaws
pub mod MaximalLaws
pub mod PlacedLaws
pub mod Positions
pub mod RangeLaws
pub mod RowLaws
pub mod StampLaws
pub mod ViewLaws
pub mod WindowLaws
