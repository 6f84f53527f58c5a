-- What a change comes to in syncs.
use Rattle.std.proofs.Common.{◌≡◌, ◌⊎◌, inl, inr, ℕ, Bool, ◌<◌, ◌≤◌, ◌+◌, ◌-◌, ◌*◌, ◌%◌, ◌^◌, false, Result, Ok, Err, refl, sym, subst, ap, ◌∙◌, arith}
use Rattle.std.specs.Prelude.{min, max}
use Rattle.std.specs.Int.{div_ceil}
use Rattle.std.proofs.Math.Nat.{add-mul, one-mul, mul-le-mul_right}
use Rattle.std.proofs.lemmas.Bool.{cases_lt}
use Rattle.std.proofs.lemmas.Grind.{div_ceil_times}
use Rattle.page_layout.specs.Counter.{counted, HasRisen}
use Rattle.nbd_stream.specs.declared.fault.DiskFault.{DiskFault}
use Rattle.disk_server.specs.declared.synced.SyncedDisk.{SyncedDisk}
use Rattle.disk_server.specs.declared.mark.SyncMark.{SyncMark}
use Rattle.disk_server.specs.Synced.{HasSynced, IsUnsynced, KeepsCount, Marks, NoneFailed, OneFailed, after_change, touched}

-- a count with one more
rise : (a b c : ℕ) → a ≤ b → c ≡ counted b → HasRisen a c
rise a b c most more = elim (cases_lt b (2 ^ 64 - 1)) [
  | inl low ↦ inl (omega (arith, most, more, low))
  | inr high ↦ inr (omega (arith, more, high))
]

pub no_less : (a b c : ℕ) → (a ≤ b) ⊎ (b ≡ 2 ^ 64 - 1) → c ≡ counted b → HasRisen a c
no_less a b c (inl most) more = rise a b c most more
no_less a b c (inr last) more = inr (omega (arith, last, more))

kept : (a b c : ℕ) → (a ≤ b) ⊎ (b ≡ 2 ^ 64 - 1) → (c ≡ b) ⊎ (c ≡ counted b) → (a ≤ c) ⊎ (c ≡ 2 ^ 64 - 1)
kept a b c (inl most) (inl same) = inl (omega (arith, most, same))
kept a b c (inr last) (inl same) = inr (same ∙ last)
kept a b c before (inr more) = elim (no_less a b c before more) [
  | inl less ↦ inl (omega (arith, less))
  | inr last ↦ inr last
]

-- parts before, and one more that was done
pub one_part : {D Y : Type 0} (synced : Y → ℕ) (offset count : ℕ) (old mid new : SyncedDisk D Y) → KeepsCount synced old mid → HasSynced synced false (after_change offset count mid) new → KeepsCount synced old new
one_part synced offset count old mid new before (inl due) = record {
  syncs = kept (synced old.syncs) (synced mid.syncs) (synced new.syncs) before.syncs (inr due.1.one);
  pace_same = due.1.pace_same ∙ before.pace_same;
}
one_part synced offset count old mid new before (inr none) = record {
  syncs = kept (synced old.syncs) (synced mid.syncs) (synced new.syncs) before.syncs (inl (ap synced none.1.syncs_same));
  pace_same = none.1.pace_same ∙ before.pace_same;
}

-- or one that failed
pub part_failed : {D Y : Type 0} (synced : Y → ℕ) (offset count : ℕ) (old mid new : SyncedDisk D Y) → KeepsCount synced old mid → IsUnsynced synced (after_change offset count mid) new → KeepsCount synced old new
part_failed synced offset count old mid new before failed = record {
  syncs = kept (synced old.syncs) (synced mid.syncs) (synced new.syncs) before.syncs (inl failed.none);
  pace_same = failed.pace_same ∙ before.pace_same;
}

-- ---- a sync that failed

pub none_then : {D Y : Type 0} (failed : Y → ℕ) (old mid new : SyncedDisk D Y) → NoneFailed failed old mid → NoneFailed failed mid new → NoneFailed failed old new
none_then failed old mid new before more = record { same = more.same ∙ before.same; count_same = more.count_same ∙ before.count_same }

pub then_failed : {D Y : Type 0} (failed : Y → ℕ) (old mid new : SyncedDisk D Y) → NoneFailed failed old mid → NoneFailed failed mid new ⊎ OneFailed failed mid new
    → NoneFailed failed old new ⊎ OneFailed failed old new
then_failed failed old mid new before (inl more) = inl (none_then failed old mid new before more)
then_failed failed old mid new before (inr one) = inr (record { kept = one.kept; rose = subst (λ n. HasRisen n (failed new.syncs)) before.count_same one.rose })

-- ---- what is marked

-- no sync marks more as flushed
pub unflushed : {D Y : Type 0} (marked : Y → SyncMark) (next : D → ℕ) (durable : Bool) (old new : SyncedDisk D Y) (result : Result (Unit {0}) DiskFault)
    → Marks marked next durable old result new → (marked new.syncs).flushed ≡ (marked old.syncs).flushed
unflushed marked next durable old new (Ok done) (inl due) = ap (λ (m : SyncMark). m.flushed) due.1
unflushed marked next durable old new (Ok done) (inr none) = ap (λ (m : SyncMark). m.flushed) none.1
unflushed marked next durable old new (Err e) is = ap (λ (m : SyncMark). m.flushed) is

-- ---- what counts as changed

gap : (p n m q : ℕ) → n + m < q → n * p + m * p + p ≤ q * p
gap p n m q less =
    let next : n + m + 1 ≤ q = omega (arith, less) in
    let wide : (n + m + 1) * p ≤ q * p = mul-le-mul_right p next in
    omega (arith, wide, add-mul (n + m) 1 p, add-mul n m p, one-mul p)

ceil_sum : (p x y z : ℕ) → 0 < p → z ≤ x + y → div_ceil z p ≤ div_ceil x p + div_ceil y p
ceil_sum p x y z some few = elim (cases_lt (div_ceil x p + div_ceil y p) (div_ceil z p)) [
  | inl more ↦ absurd (omega (arith, gap p (div_ceil x p) (div_ceil y p) (div_ceil z p) more, (div_ceil_times x p some).0, (div_ceil_times y p some).0, (div_ceil_times z p some).1, few))
  | inr most ↦ most
]

-- a range touches no more pieces than its two parts
touched_sum : (p o k m : ℕ) → touched p o (k + m) ≤ touched p o k + touched p (o + k) m
touched_sum p o k m = ceil_sum (max p 1) (o % max p 1 + k) ((o + k) % max p 1 + m) (o % max p 1 + (k + m)) (omega arith) (omega arith)

module _ {D Y : Type 0} (synced : Y → ℕ) (o : ℕ) where
  -- so many bytes from a place on count, with so many pieces
  pub record Counted (k : ℕ) (old mid : SyncedDisk D Y) : Type 0 where
    pub pieces : ℕ
    pub low : HasRisen (synced old.syncs) (synced mid.syncs) ⊎ (min (old.unsynced + pieces) (2 ^ 64 - 1) ≤ mid.unsynced)
    pub more : (m : ℕ) → touched old.pace.piece o (k + m) ≤ pieces + touched old.pace.piece (o + k) m
    pub all : 0 < k → pieces ≡ touched old.pace.piece o k

  pub part_counted : (k m : ℕ) (old mid new : SyncedDisk D Y) → KeepsCount synced old mid → Counted k old mid → HasSynced synced false (after_change (o + k) m mid) new → Counted (k + m) old new
  part_counted k m old mid new before so one = record {
    pieces = touched old.pace.piece o (k + m);
    low = goes so.low one;
    more = λ n. (let same : k + m + n ≡ k + (m + n) = omega arith in touched_sum old.pace.piece o (k + m) n);
    all = λ _. refl;
  }
    where
      goes : HasRisen (synced old.syncs) (synced mid.syncs) ⊎ (min (old.unsynced + so.pieces) (2 ^ 64 - 1) ≤ mid.unsynced) → HasSynced synced false (after_change (o + k) m mid) new
          → HasRisen (synced old.syncs) (synced new.syncs) ⊎ (min (old.unsynced + touched old.pace.piece o (k + m)) (2 ^ 64 - 1) ≤ new.unsynced)
      goes low (inl due) = inl (no_less (synced old.syncs) (synced mid.syncs) (synced new.syncs) before.syncs due.1.one)
      goes (inl risen) (inr none) = inl (subst (HasRisen (synced old.syncs)) (sym (ap synced none.1.syncs_same)) risen)
      goes (inr low) (inr none) =
          let paced : touched mid.pace.piece (o + k) m ≡ touched old.pace.piece (o + k) m = ap (λ p. touched p.piece (o + k) m) before.pace_same in
          inr (omega (arith, low, none.1.unsynced_same, paced, so.more m))
