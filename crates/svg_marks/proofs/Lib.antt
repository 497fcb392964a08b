pub mod BreakLemmas
pub mod FreeLemmas
pub mod MarkLemmas
pub mod WordLemmas
pub mod PictureLemmas
pub mod TextLemmas
pub mod ClassLemmas
pub mod RectLemmas
