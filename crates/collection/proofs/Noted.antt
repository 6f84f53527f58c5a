-- A fault that is noted after a collection changes nothing else that is known.
use Rattle.std.proofs.Common.{◌⊎◌, inl, inr, ℕ, ◌≤◌, Bool, true, false, Option, Some, None, Result, Ok, Err}
use Rattle.std.specs.Prelude.{MatchResult, OnOk}
use Rattle.page_layout.specs.Page.{Image}
use Rattle.collection.specs.declared.fault.EngineFault.{EngineFault}
use Rattle.collection.specs.declared.fault.EngineFault.TheVariants.{ReadOnly, SequenceSpent, Damaged, Bus}
use Rattle.allocation.specs.State.{free_count}
use Rattle.collection.specs.State.{Ram}
use Rattle.collection.specs.Results.{Refused, fault_after}
use Rattle.collection.specs.Collect.{GoesBut, GoesOn, Refreshes, HasNoneWorth, HasRoom, CollectCosts, CollectsFew, IsEmptied, IsRearranged, RoomRefused}
use Rattle.collection.specs.Left.{PinIsFew}
use Rattle.collection.specs.Collect.{RoomTells, RoomCounts, StreamRunsOut, StreamSpends, RescueCosts, IsRescued}
use Rattle.collection.specs.Renew.{IsRenewedAt}
use Rattle.collection.proofs.Gates.{true_noted, same_noted, refused_noted}

module _ (fault : Option EngineFault) (b : Ram) where
  out_noted : (a : Ram) → StreamRunsOut a b → StreamRunsOut a (record b { fault = fault })
  out_noted a x = record { stream = x.stream; out = record { failures = x.out.failures; found = x.out.found; none = x.out.none; next = x.out.next; sequence = x.out.sequence } }

  spent_noted : (a : Ram) → StreamSpends a b → StreamSpends a (record b { fault = fault })
  spent_noted a x = record { stream = x.stream; spent = record { tried = record { failures = x.spent.tried.failures; tries = x.spent.tried.tries; next = x.spent.tried.next }; last = x.spent.last } }

module _ (fault : Option EngineFault) where
  pub but_noted : (block : ℕ) (a b : Ram) → GoesBut block a b → GoesBut block a (record b { fault = fault })
  but_noted block a b x = record { geometry = x.geometry; next = x.next; shut = x.shut }

  pub on_noted : (a b : Ram) → GoesOn a b → GoesOn a (record b { fault = fault })
  on_noted a b x = record { geometry = x.geometry; next = x.next; bad = x.bad }

  pub fresh_noted : (a b : Ram) → Refreshes a b → Refreshes a (record b { fault = fault })
  fresh_noted a b x = record { each = x.each }

  pub emptied_noted : (block : ℕ) (a b : Ram) (x y : Image) (result : Result (Unit {0}) EngineFault)
      → MatchResult result (λ u. IsEmptied block a x b y) (Refused a x b y)
      → MatchResult result (λ u. IsEmptied block a x (record b { fault = fault }) y) (Refused a x (record b { fault = fault }) y)
  emptied_noted block a b x y (Ok u) k = record { same = same_noted fault a b x y k.same; none = k.none }
  emptied_noted block a b x y (Err f) k = refused_noted fault a b x y f k

  rearranged_noted : (a b : Ram) (x y : Image) → IsRearranged a x b y → IsRearranged a x (record b { fault = fault }) y
  rearranged_noted a b x y k = record { truth = true_noted fault None b y k.truth; array = k.array; bad = k.bad; versions = k.versions }

  pub room_refused_noted : (a b : Ram) (x y : Image) (f : EngineFault) → RoomRefused a x b y f → RoomRefused a x (record b { fault = fault }) y f
  room_refused_noted a b x y ReadOnly k = rearranged_noted a b x y k
  room_refused_noted a b x y SequenceSpent k = rearranged_noted a b x y k
  room_refused_noted a b x y Damaged k = k
  room_refused_noted a b x y Bus k = tt

  worth_noted : (many : ℕ) (b : Ram) → (many ≤ free_count b.blocks) ⊎ HasNoneWorth b → (many ≤ free_count b.blocks) ⊎ HasNoneWorth (record b { fault = fault })
  worth_noted many b (inl enough) = inl enough
  worth_noted many b (inr none) = inr (record { none = none.none })

  pub room_noted : (many : ℕ) (b : Ram) (result : Result (Unit {0}) EngineFault) → OnOk result (HasRoom many b) → OnOk result (HasRoom many (record b { fault = fault }))
  room_noted many b (Ok u) k = record { five = k.five; wanted = worth_noted many b k.wanted }
  room_noted many b (Err f) k = tt

  pub counts_noted : (many failures : ℕ) (a b : Ram) (result : Result (Unit {0}) EngineFault) → RoomCounts many failures a b result → RoomCounts many failures a (record b { fault = fault }) result
  counts_noted many failures a b (Ok u) k = record { its_failures = k.its_failures; good = k.good; funded = k.funded; wanted = k.wanted }
  counts_noted many failures a b (Err ReadOnly) k = k
  counts_noted many failures a b (Err SequenceSpent) k = k
  counts_noted many failures a b (Err Damaged) k = k
  counts_noted many failures a b (Err Bus) k = k

  pub tells_noted : (b : Ram) (f : EngineFault) → RoomTells b f → RoomTells (record b { fault = fault }) f
  tells_noted b ReadOnly k = k
  tells_noted b SequenceSpent k = k
  tells_noted b Damaged k = k
  tells_noted b Bus k = k

  pub few_noted : (b : Ram) → PinIsFew 0 b → PinIsFew 0 (record b { fault = fault })
  few_noted b k = λ p is. (let few = k p is in record { within = few.within; small = few.small; moved = few.moved })

  pub rescued_noted : (a b : Ram) (x y : Image) (result : Result Bool EngineFault) → MatchResult result (IsRescued a x b y) (Refused a x b y) → MatchResult result (IsRescued a x (record b { fault = fault }) y) (Refused a x (record b { fault = fault }) y)
  rescued_noted a b x y (Ok found) k = record { same = same_noted fault a b x y k.same; lowest = k.lowest; some = k.some; none = k.none; bad = k.bad }
  rescued_noted a b x y (Err f) k = refused_noted fault a b x y f k

  pub renewed_noted : (row : ℕ) (a b : Ram) (x y : Image) (result : Result Bool EngineFault) → MatchResult result (IsRenewedAt row a x b y) (Refused a x b y) → MatchResult result (IsRenewedAt row a x (record b { fault = fault }) y) (Refused a x (record b { fault = fault }) y)
  renewed_noted row a b x y (Ok true) k = record {
    key = k.key;
    no_table = k.no_table;
    due = k.due;
    same = same_noted fault a b x y k.same;
    renewed = k.renewed;
    followed = k.followed;
    none = k.none;
    others = k.others;
  }
  renewed_noted row a b x y (Ok false) k = (k.0, same_noted fault a b x y k.1, k.2)
  renewed_noted row a b x y (Err f) k = refused_noted fault a b x y f k

pub cost_noted : (flushing : Bool) (block : ℕ) (a b : Ram) (result : Result (Unit {0}) EngineFault) → CollectCosts flushing block a b result → CollectCosts flushing block a (record b { fault = fault_after b.fault result }) result
cost_noted flushing block a b (Ok u) x = x
cost_noted flushing block a b (Err ReadOnly) x = record { mid = x.mid; ledger = x.ledger; out = out_noted (Some ReadOnly) b x.mid x.out }
cost_noted flushing block a b (Err SequenceSpent) x = record { mid = x.mid; ledger = x.ledger; out = spent_noted (Some SequenceSpent) b x.mid x.out }
cost_noted flushing block a b (Err Damaged) x = tt
cost_noted flushing block a b (Err Bus) x = tt

pub sparing_noted : (flushing : Bool) (block : ℕ) (a b : Ram) (result : Result (Unit {0}) EngineFault) → OnOk result (CollectsFew flushing block a b) → OnOk result (CollectsFew flushing block a (record b { fault = fault_after b.fault result }))
sparing_noted flushing block a b (Ok u) k = k
sparing_noted flushing block a b (Err f) k = tt

pub rescue_cost_noted : (a b : Ram) (result : Result Bool EngineFault) → RescueCosts a b result → RescueCosts a (record b { fault = fault_after b.fault result }) result
rescue_cost_noted a b (Ok false) k = k
rescue_cost_noted a b (Ok true) k = k
rescue_cost_noted a b (Err ReadOnly) k = record { mid = k.mid; data_pages = k.data_pages; meta_pages = k.meta_pages; few = k.few; programmed = k.programmed; out = out_noted (Some ReadOnly) b k.mid k.out }
rescue_cost_noted a b (Err SequenceSpent) k = record { mid = k.mid; data_pages = k.data_pages; meta_pages = k.meta_pages; few = k.few; programmed = k.programmed; spent = spent_noted (Some SequenceSpent) b k.mid k.spent }
rescue_cost_noted a b (Err Damaged) k = tt
rescue_cost_noted a b (Err Bus) k = tt
