-- Calls of a source or a die, one list of them after another.
use Rattle.page_layout.specs.DieCalls.{DieCall, AsksOnly, AskedNothing, AskedOneMore}

module _ {S : Type 0} (called : S → DieCall → S → Type 0) where
  pub asks_one : (old new : S) (call : DieCall) → called old call new → AsksOnly called old new
  asks_one old new call one = AskedOneMore old new call AskedNothing one

  pub asks_then : (a b c : S) → AsksOnly called a b → AsksOnly called b c → AsksOnly called a c
  asks_then a b _ first AskedNothing = first
  asks_then a b _ first (AskedOneMore mid new call more one) = AskedOneMore mid new call (asks_then a b mid first more) one
