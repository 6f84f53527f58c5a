-- What is known of a call holds on once memory has followed it, where the die is not asked again.
use Rattle.std.proofs.Common.{◌≡◌, ◌≢◌, ◌∙◌, inl, inr, ℕ, ◌+◌, ◌/◌, ◌<◌, ◌≤◌, List, Option, Some, None, IsSome, Result, Ok, Err, refl, ap, sym, subst, arith}
use Rattle.std.specs.Prelude.{◌⊎◌, slice_set, OnOk, IfErr}
use Rattle.std.specs.Option.{ForSome}
use Rattle.page_layout.specs.View.{View}
use Rattle.page_layout.specs.Flash.{Flash}
use Rattle.page_layout.specs.Recording.{Recording}
use Rattle.page_layout.specs.Geometry.{entries, translation_pages}
use Rattle.page_layout.specs.Key.{key_from}
use Rattle.page_layout.specs.Counter.{counted}
use Rattle.page_layout.specs.DieCalls.{AsksOnly}
use Rattle.page_layout.specs.declared.record.Key.{Key}
use Rattle.page_layout.specs.declared.record.Key.TheVariants.{Sector, Translation, Table}
use Rattle.page_layout.specs.declared.record.Kind.{Kind}
use Rattle.page_layout.specs.declared.record.Kind.TheVariants as kind
use Rattle.page_layout.specs.Page.{Page}
use Rattle.budget.specs.declared.stream.Stream.{Stream}
use Rattle.budget.specs.declared.stream.Stream.TheVariants.{Meta}
use Rattle.mapping_cache.specs.Mapping.{MappingState, IsMapping, slot_of, cleaned}
use Rattle.collection.specs.State.{Ram}
use Rattle.collection.specs.Safe.{IsSafe, IsRam, ram}
use Rattle.collection.specs.declared.engine.Engine.{Engine}
use Rattle.collection.specs.declared.fault.EngineFault.{EngineFault}
use Rattle.collection.specs.declared.fault.EngineFault.TheVariants.{ReadOnly, SequenceSpent, Damaged, Bus}
use Rattle.collection.specs.Acts.{EngineActs, OnlyPrograms}
use Rattle.collection.specs.Log.{FollowsLog, Wears, Went}
use Rattle.collection.specs.Cost.{HasPut, WriteBackCosts}
use Rattle.collection.specs.Results.{Goes, IsLastPage}
use Rattle.collection.specs.Collect.{IsFollowed, PutsBehind, FollowCosts}
use Rattle.collection.specs.Settle.{HasNoMore, SetsRow, SettlesRow}
use Rattle.collection.proofs.Acts.{ok_as, acts_ok, acts_end}
use Rattle.collection.proofs.Costs.{err_as}
use Rattle.collection.proofs.Ends.{no_more_still, read_only_apart}
use Rattle.collection.proofs.Looks.{ok_not_bus}

pub for_some : {A : Type 0} (P : A → Type 0) (x : A) → P x → ForSome (Some x) P
for_some {A} P x holds = λ y e. (let same : x ≡ y = cc in subst P same holds)

-- ---- memory follows a page that was put

went_as : (a b c : Ram) (x y : Flash) (told told' : Option Recording) → c.blocks ≡ b.blocks → c.next ≡ b.next → Went a x told b y told' → Went a x told c y told'
went_as a b c x y told told' same next w = record {
  log = w.log;
  leads = w.leads;
  records = w.records;
  follows = subst (λ s. FollowsLog a.geometry.pages w.log a.blocks s) (sym same) w.follows;
  next = next ∙ w.next;
  wears = subst (λ s. Wears w.log a.blocks s) (sym same) w.wears;
  numbers = w.numbers;
}

pub acts_on : {A B N : Type 0} {view : View N} (a b c : Engine N) (x : A) (y : B) → IsSafe view.flash c → (ram c).fault ≡ (ram b).fault
    → (ram c).blocks ≡ (ram b).blocks → (ram c).next ≡ (ram b).next → c.nand ≡ b.nand → EngineActs view a b (Ok x) → EngineActs view a c (Ok y)
acts_on {A} {B} {N} {view} a b c x y safe fault blocks next nand p = record {
  safe = safe;
  fault = fault ∙ p.fault;
  honest_is = ap view.honest nand ∙ p.honest_is;
  calm_is = ap view.calm nand ∙ p.calm_is;
  asked = subst (λ z. AsksOnly view.called a.nand z) (sym nand) p.asked;
  failed_is = subst (λ z. view.failed a.nand ≤ view.failed z) (sym nand) p.failed_is;
  rose = λ is. absurd (ok_not_bus y is);
  went = λ known ne. subst (λ z. Went (ram a) (view.flash a.nand) (view.recorded a.nand) (ram c) (view.flash z) (view.recorded z)) (sym nand)
      (went_as (ram a) (ram b) (ram c) _ _ _ _ blocks next (p.went known (ok_not_bus x)));
}

pub programs_on : {N : Type 0} (view : View N) (a b c : N) → c ≡ b → OnlyPrograms view a b → OnlyPrograms view a c
programs_on view a b c same p = subst (λ z. OnlyPrograms view a z) (sym same) p

pub no_more_is : (m m' : MappingState) → m' ≡ m → HasNoMore m m'
no_more_is m m' is = subst (HasNoMore m) (sym is) (no_more_still m)

-- ---- a sector's translation page follows

pub followed_other : (key : Key) (m : MappingState) → ((n : ℕ) → key ≢ Sector n) → IsFollowed key m m
followed_other (Sector n) m apart = absurd (apart n refl)
followed_other (Translation t) m apart = refl
followed_other (Table u) m apart = refl

pub behind_other : (key : Key) (r : Ram) → ((n : ℕ) → key ≢ Sector n) → PutsBehind key r r
behind_other (Sector n) r apart = absurd (apart n refl)
behind_other (Translation t) r apart = refl
behind_other (Table u) r apart = refl

module _ (key : Key) (n : ℕ) (is : key ≡ Sector n) where
  pub followed_cached : (m : MappingState) → IsSome (slot_of m n) → IsFollowed key m m
  followed_cached m some = subst (λ k. IsFollowed k m m) (sym is) (inl (some, refl))

  pub behind_cached : (r : Ram) → IsSome (slot_of r.mapping n) → PutsBehind key r r
  behind_cached r some = subst (λ k. PutsBehind k r r) (sym is) (inl (some, refl))

  pub followed_now : (e : ℕ) (a : Ram) (m : MappingState) (result : Result (Unit {0}) EngineFault) → slot_of a.mapping n ≡ None → e ≡ entries a.geometry
      → a.mapping.geometry ≡ a.geometry → OnOk result (m ≡ cleaned a.mapping (n / e)) → OnOk result (IsFollowed key a.mapping m)
  followed_now e a m (Ok done) none same mapping_of clean = subst (λ k. IsFollowed k a.mapping m) (sym is) (inr (none, clean ∙ ap (λ z. cleaned a.mapping (n / z)) (same ∙ ap entries (sym mapping_of))))
  followed_now e a m (Err f) none same mapping_of clean = tt

  pub followed_costs : (a b : Ram) (result : Result (Unit {0}) EngineFault) → slot_of a.mapping n ≡ None → WriteBackCosts a b result → FollowCosts key a b result
  followed_costs a b (Ok done) none cost = subst (λ k. PutsBehind k a b) (sym is) (inr (none, cost))
  followed_costs a b (Err ReadOnly) none cost = record { stream = Meta; out = cost }
  followed_costs a b (Err SequenceSpent) none cost = record { stream = Meta; spent = cost }
  followed_costs a b (Err Damaged) none cost = cost
  followed_costs a b (Err Bus) none cost = tt

-- ---- reads

pub reads_one : (a b c : ℕ) → c ≡ b → b ≤ a + 1 → c ≤ a + 1
reads_one a b c same le = omega arith

pub reads_two : (a b c : ℕ) → b ≤ a + 1 → c ≡ counted b → c ≤ a + 2
reads_two a b c le is = omega arith

pub reads_more : (a b : ℕ) → b ≤ a + 1 → b ≤ a + 2
reads_more a b le = omega arith

pub hit_reads : {S X : Type 0} (reads : S → ℕ) (a b : S) (o : Option X) (Q : X → Type 0) (n : ℕ) → ForSome o (λ x. Q x × (b ≡ a)) → IsSome o → n ≡ counted (reads b) → n ≤ reads a + 1
hit_reads {S} {X} reads a b None Q n hit some is = (let never : ⊥ = cc in absurd never)
hit_reads {S} {X} reads a b (Some x) Q n hit some is = (let e : reads b ≡ reads a = ap reads (hit x refl).1 in omega (arith, e, is))

pub found_apart : {A X : Type 0} (found : Option X) (x : X) → ok_as found ≡ ok_as None → found ≡ Some x → A
found_apart {A} {X} found x none is = (let never : ⊥ = cc in absurd never)

pub err_not_ok : {A X : Type 0} (f : EngineFault) (x : X) → err_as X f ≡ ok_as x → A
err_not_ok {A} {X} f x e = (let never : ⊥ = cc in absurd never)

pub for_none : {A : Type 0} (P : A → Type 0) → ForSome None P
for_none {A} P = λ y e. (let never : ⊥ = cc in absurd never)

-- ---- the mapping was cleaned

module _ (b : Ram) (m : MappingState) where
  pub mapped_ram : IsRam b → IsMapping m → m.geometry ≡ b.mapping.geometry → IsRam (record b { mapping = m })
  mapped_ram s valid same = record { directory = s.directory; directory_rows = s.directory_rows; mapping = valid; mapping_of = same ∙ s.mapping_of; blocks = s.blocks; blocks_of = s.blocks_of; next = s.next; marks = s.marks }

  pub mapped_goes : (a : Ram) → Goes a b → Goes a (record b { mapping = m })
  mapped_goes a goes = record { geometry = goes.geometry; next = goes.next; shut = goes.shut }

  pub mapped_last : (kind : Kind) (n : ℕ) (p : Page) → IsLastPage kind n b p → IsLastPage kind n (record b { mapping = m }) p
  mapped_last kind n p l = record { its = l.its; sound = l.sound; of_kind = l.of_kind; of_number = l.of_number; last = l.last }

  pub mapped_put : (stream : Stream) (a : Ram) → HasPut stream a b → HasPut stream a (record b { mapping = m })
  mapped_put stream a h = record { failures = h.failures; put = h.put; next = h.next }

-- ---- a call that ends as too few blocks are free

pub acts_ended : {N : Type 0} {view : View N} (A : Type 0) (a b : Engine N) (result : Result (Unit {0}) EngineFault) → IfErr result (λ f. (f ≡ ReadOnly) × A) → EngineActs {A = Unit {0}} view a b (Ok tt) → EngineActs view a b result
acts_ended A a b (Ok u) refused p = acts_ok a b tt u p
acts_ended A a b (Err f) refused p = acts_end a b tt f (λ e. read_only_apart (sym refused.0 ∙ e)) p

pub not_bus_ended : {X : Type 0} (A : Type 0) (result : Result (Unit {0}) EngineFault) → IfErr result (λ f. (f ≡ ReadOnly) × A) → result ≡ Err Bus → X
not_bus_ended {X} A (Ok u) refused e = absurd (ok_not_bus u e)
not_bus_ended {X} A (Err f) refused e = (let same : f ≡ Bus = cc in absurd (read_only_apart (sym refused.0 ∙ same)))

-- ---- a key's row is set

pub settles_sector : (what : Kind) (n row : ℕ) (r : Ram) (m : MappingState) → (what ≡ kind.Sector) ⊎ (what ≡ kind.Trim) → SetsRow n (Some row) r.mapping m → SettlesRow (key_from what n) row r (record r { mapping = m })
settles_sector what n row r m (inl is) sets = subst (λ k. SettlesRow (key_from k n) row r (record r { mapping = m })) (sym is) (record { geometry = refl; directory = refl; mapping = sets; blocks = refl; next = refl; pin = refl; fault = refl })
settles_sector what n row r m (inr is) sets = subst (λ k. SettlesRow (key_from k n) row r (record r { mapping = m })) (sym is) (record { geometry = refl; directory = refl; mapping = sets; blocks = refl; next = refl; pin = refl; fault = refl })

pub settles_page : (what : Kind) (n row : ℕ) (r : Ram) (d : List (Option ℕ)) → what ≡ kind.Translation → d ≡ slice_set r.directory n (Some row) → SettlesRow (key_from what n) row r (record r { directory = d })
settles_page what n row r d is set = subst (λ k. SettlesRow (key_from k n) row r (record r { directory = d })) (sym is) (record { geometry = refl; directory = set; mapping = refl; blocks = refl; next = refl; pin = refl; fault = refl })

pub settles_table : (what : Kind) (n row pages : ℕ) (r : Ram) (d : List (Option ℕ)) → what ≡ kind.Table → pages ≡ translation_pages r.geometry → d ≡ slice_set r.directory (pages + n) (Some row)
    → SettlesRow (key_from what n) row r (record r { directory = d })
settles_table what n row pages r d is same set = subst (λ k. SettlesRow (key_from k n) row r (record r { directory = d })) (sym is)
    (record { geometry = refl; directory = set ∙ ap (λ p. slice_set r.directory (p + n) (Some row)) same; mapping = refl; blocks = refl; next = refl; pin = refl; fault = refl })
