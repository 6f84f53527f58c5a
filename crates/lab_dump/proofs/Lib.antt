pub mod PageLemmas
pub mod PieceLemmas
pub mod GeometryLemmas
pub mod ScanLemmas
pub mod RowLemmas
pub mod WritingLemmas
mod DamagedLemmas
pub mod WrittenLemmas
pub mod MapLemmas
pub mod LostLemmas
pub mod ComparingLemmas
pub mod CountLemmas
pub mod DoubtLemmas
pub mod TraceLemmas
mod AnyLemmas
pub mod BadLemmas
pub mod SaidLemmas
pub mod ConcludeLemmas
pub mod BoundLemmas
pub mod KeyLemmas
pub mod RepeatLemmas
pub mod MountsLemmas
pub mod SampleLemmas
pub mod ToldLemmas
pub mod ShapeLemmas
pub mod FitLemmas
pub mod RankLemmas
pub mod FitLawLemmas
pub mod MemberLemmas
pub mod OnceLemmas
mod UntilLemmas
mod HistoryLemmas
mod NearestLemmas
