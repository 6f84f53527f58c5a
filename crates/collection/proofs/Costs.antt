-- What tries cost, one after another.
use Rattle.std.proofs.Common.{◌≡◌, ◌≢◌, inl, inr, ℕ, ◌+◌, ◌-◌, ◌<◌, ◌≤◌, ◌^◌, Option, Some, None, Result, Ok, Err, ap, sym, subst, arith}
use Rattle.page_layout.specs.declared.geometry.Geometry.{Geometry}
use Rattle.budget.specs.declared.stream.Stream.{Stream}
use Rattle.budget.specs.Counts.{TakesOne, FitsGoodBlocks}
use Rattle.budget.proofs.PutLemmas.{first_try, failed_try, passed_try, no_try}
use Rattle.allocation.specs.State.{free_count}
use Rattle.allocation.specs.Counts.{counts_of}
use Rattle.allocation.proofs.TallyLemmas.{fits}
use Rattle.allocation.proofs.OtherLemmas.{none_counts}
use Rattle.collection.specs.State.{Ram}
use Rattle.collection.specs.Safe.{IsRam}
use Rattle.page_layout.specs.Counter.{HasRisen}
use Rattle.collection.specs.declared.fault.EngineFault.{EngineFault}
use Rattle.collection.specs.declared.fault.EngineFault.TheVariants.{ReadOnly, SequenceSpent, Damaged, Bus}
use Rattle.collection.specs.Cost.{FailsTry, PassesTry, FindsNoRow, TryCosts, HasTried, HasPut, HasRunOut, HasSpent, PutCosts}

pub not_tried : (stream : Stream) (r : Ram) → HasTried stream r r
not_tried stream r = record { failures = 0; tries = first_try stream (counts_of r.blocks); next = omega arith }

module _ (stream : Stream) (old now new : Ram) (h : HasTried stream old now) where
  pub tried_again : FailsTry stream now new → HasTried stream old new
  tried_again f = record {
    failures = h.failures + 1;
    tries = failed_try stream h.failures (counts_of old.blocks) (counts_of now.blocks) (counts_of new.blocks) h.tries f.counts;
    next = omega (arith, h.next, f.next);
  }

  pub has_put : IsRam old → now.geometry ≡ old.geometry → PassesTry stream now new → HasPut stream old new
  has_put s same p =
      let fit : FitsGoodBlocks old.geometry.pages (counts_of old.blocks) = (let P : Geometry → Type 0 = λ g. FitsGoodBlocks g.pages (counts_of old.blocks) in subst P s.blocks_of (fits (free_count old.blocks) old.blocks s.blocks)) in
      let takes : TakesOne stream old.geometry.pages (counts_of now.blocks) (counts_of new.blocks) = (let P : Geometry → Type 0 = λ g. TakesOne stream g.pages (counts_of now.blocks) (counts_of new.blocks) in subst P same p.counts) in
      record {
        failures = h.failures;
        put = passed_try stream old.geometry.pages h.failures (counts_of old.blocks) (counts_of now.blocks) (counts_of new.blocks) fit h.tries takes;
        next = omega (arith, h.next, p.next);
      }

pub has_run_out : (stream : Stream) (old now new : Ram) → HasTried stream old now → now.next < 2 ^ 64 - 1 → FindsNoRow stream now new → HasRunOut stream old new
has_run_out stream old now new h lt f =
    let none = none_counts now.blocks stream f.none in
    let out : HasRunOut stream old now = record {
      failures = h.failures;
      found = no_try stream h.failures (counts_of old.blocks) (counts_of now.blocks) h.tries none.0 none.1;
      none = f.none;
      next = h.next;
      sequence = lt;
    } in
    subst (λ r. HasRunOut stream old r) (sym f.same) out

-- ---- by what a try answers

pub tries_none : (stream : Stream) (a b : Ram) (o : Option ℕ) → TryCosts stream a b (Ok o) → o ≡ None → FailsTry stream a b
tries_none stream a b o t is = (let P : Option ℕ → Type 0 = λ v. TryCosts stream a b (Ok v) in subst P is t)

pub tries_some : (stream : Stream) (a b : Ram) (row : ℕ) (o : Option ℕ) → TryCosts stream a b (Ok o) → o ≡ Some row → PassesTry stream a b
tries_some stream a b row o t is = (let P : Option ℕ → Type 0 = λ v. TryCosts stream a b (Ok v) in subst P is t)

pub costs_then : (stream : Stream) (a b c : Ram) (fault : EngineFault) → HasTried stream a b → b.next < 2 ^ 64 - 1 → TryCosts stream b c (Err fault) → PutCosts stream a c (Err fault)
costs_then stream a b c ReadOnly h lt t = has_run_out stream a b c h lt t
costs_then stream a b c SequenceSpent h lt t = absurd t
costs_then stream a b c Damaged h lt t = t
costs_then stream a b c Bus h lt t = tt

pub has_spent : (stream : Stream) (a b : Ram) → HasTried stream a b → 2 ^ 64 - 1 ≤ b.next → b.next < 2 ^ 64 → HasSpent stream a b
has_spent stream a b h low high = record { tried = h; last = omega arith }

-- ---- faults of the die

pub risen_over : (a b c : ℕ) → a ≤ b → HasRisen b c → HasRisen a c
risen_over a b c le (inl lt) = inl (omega arith)
risen_over a b c le (inr top) = inr top

-- a fault of one call is another's
abbrev pub err_as : (A : Type 0) → EngineFault → Result A EngineFault
err_as A f = Err f

pub not_bus : {A B : Type 0} (f : EngineFault) → err_as A f ≢ err_as A Bus → err_as B f ≢ err_as B Bus
not_bus {A} {B} f ne e = (let same : f ≡ Bus = cc in ne (ap (err_as A) same))
