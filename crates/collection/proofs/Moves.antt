-- A page is moved out of its row: it is copied, and its translation page follows. And what becomes of the look that found it.
use Rattle.std.proofs.Common.{◌≡◌, ◌≢◌, inl, inr, ℕ, ◌+◌, ◌/◌, ◌<◌, ◌≤◌, Bool, true, false, length, None, Result, Ok, Err, MatchResult, refl, ap, sym, ◌∙◌, subst, arith}
use Rattle.std.specs.Prelude.{◌⊎◌, OnOk, OnErr}
use Rattle.std.specs.Map.{keys_of}
use Rattle.page_layout.specs.View.{View}
use Rattle.page_layout.specs.declared.geometry.Geometry.{Geometry}
use Rattle.page_layout.specs.declared.record.Record.{Record}
use Rattle.page_layout.specs.declared.record.Key.{Key}
use Rattle.page_layout.specs.declared.record.Key.TheVariants.{Sector, Translation, Table}
use Rattle.page_layout.specs.Page.{Image}
use Rattle.page_layout.specs.Key.{key_of}
use Rattle.page_layout.specs.Geometry.{row_count, entries}
use Rattle.page_layout.specs.Sound.{version_for}
use Rattle.budget.specs.declared.stream.Stream.TheVariants.{Meta}
use Rattle.budget.specs.Spending.{data_of, meta_of}
use Rattle.budget.proofs.AccountLemmas.{no_page}
use Rattle.allocation.specs.State.{live_at}
use Rattle.allocation.specs.Counts.{counts_of}
use Rattle.promises.proofs.StopLemmas.{leaves_nothing}
use Rattle.collection.specs.declared.engine.Engine.{Engine}
use Rattle.collection.specs.declared.fault.EngineFault.{EngineFault}
use Rattle.collection.specs.declared.fault.EngineFault.TheVariants.{ReadOnly, SequenceSpent, Damaged, Bus}
use Rattle.collection.specs.State.{Ram}
use Rattle.collection.specs.Safe.{IsRam, IsSafe, ram, image_in, is_shut}
use Rattle.collection.specs.Truth.{IsTrue}
use Rattle.collection.specs.Cost.{HasPut}
use Rattle.collection.specs.Looks.{IsReadFault}
use Rattle.collection.specs.Live.{IsLivePage}
use Rattle.collection.specs.Results.{Refused, Goes}
use Rattle.collection.specs.Settle.{SetsMapping}
use Rattle.collection.specs.Collect.{waiting, IsMovedOut, IsRenewed, HasCopied, HasProgrammed, FaultCosts, FollowCosts, PutsBehind, HasRescuedPage, RescueCosts}
use Rattle.collection.specs.Collect.{KeepsKeys, FollowsCopy, IsFollowed, IsFollowedBy}
use Rattle.collection.specs.Left.{LeavesPin}
use Rattle.collection.specs.Acts.{EngineLooks, EngineActs}
use Rattle.collection.specs.Moves.{IsMovedPage, MovesPage, MovesOne, moved_answer}
use Rattle.collection.proofs.Acts.{ok_as, acts_same, acts_then, acts_ok, acts_err, acts_end, looked}
use Rattle.collection.proofs.Copies.{keys_same}
use Rattle.collection.proofs.Costs.{err_as}
use Rattle.collection.proofs.Cuts.{cut_read, cut_looking}
use Rattle.collection.proofs.Ends.{damaged_apart, err_apart, goes_is, keys_is, keys_from, beside_is, up_to_one, up_to_more, one_more_is, one_more_set}
use Rattle.collection.proofs.Follows.{follows_by, followed_beside}
use Rattle.collection.proofs.Ledgers.{fit, one_of, programmed_more}
use Rattle.collection.proofs.Looks.{ok_not_bus}
use Rattle.collection.proofs.Memory.{goes_same, shut_same}
use Rattle.collection.proofs.Puts.{same_then, refused_then, keeps_page_then}
use Rattle.collection.proofs.Exits.{refused_bus}
use Rattle.collection.proofs.Rooms.{shut_fewer}
use Rattle.collection.proofs.Steps.{at_start, err_same}
use Rattle.collection.proofs.Stops.{same_left, leaves_still, stops_looked, fault_not_bus}
use Rattle.collection.proofs.Truths.{row_in_block}

-- ---- the copy, and the page that follows it

-- no page follows a copy of itself
apart_behind : (r : Ram) (key : Key) → ¬ FollowsCopy r key key
apart_behind r key follows =
    let e : Sector follows.sector ≡ Translation (follows.sector / entries r.geometry) = sym follows.of_sector ∙ follows.page_is in
    let no : ⊥ = cc in no

module _ (key : Key) (row : ℕ) (a c d : Ram) (x y z : Image) (goes : Goes a c) (after : d.geometry ≡ c.geometry) where
  moved_page : IsRam c → IsRam d → row < row_count a.geometry → keys_of c.mapping.cached ≡ keys_of a.mapping.cached → IsRenewed key a x c y
      → (is_shut a.blocks (row / a.geometry.pages) ≡ true → IsMovedOut row a x c y) → IsFollowedBy key c y d z → IsMovedPage key row a x d z
  moved_page sc sd lt keys m out f =
      let within : row / a.geometry.pages < a.geometry.blocks = row_in_block a.geometry row lt in
      let still : is_shut a.blocks (row / a.geometry.pages) ≡ true → is_shut c.blocks (row / a.geometry.pages) ≡ true = λ shut.
      shut_same a.blocks c.blocks (row / a.geometry.pages) (goes.shut (row / a.geometry.pages) within shut) ∙ shut in
      record {
        same = same_then a c d x y z goes after m.same f.same;
        renewed = λ two. (f.others key (apart_behind c key)).version ∙ m.renewed two;
        followed = λ two other follows. f.renewed (ap version_for goes.geometry ∙ two) other (follows_by c a key other (sym goes.geometry) (sym keys) follows);
        others = λ other ne far. keeps_page_then other x y z (m.others other ne) (f.others other (λ follows. far (follows_by a c key other goes.geometry keys follows)));
        gone = λ shut other q. elim (f.same.leaves.each other) [
          | inl stayed ↦ (out shut).gone other (sym stayed ∙ q)
          | inr outside ↦
              let here : is_shut c.blocks (row / c.geometry.pages) ≡ true = ap (λ (g : Geometry). is_shut c.blocks (row / g.pages)) goes.geometry ∙ still shut in
              let no : true ≡ false = sym here ∙ outside row q in
              let never : ⊥ = cc in never
        ];
        fewer = λ shut.
            let less : live_at d.blocks (row / a.geometry.pages) ≤ live_at c.blocks (row / a.geometry.pages) = shut_fewer c d y z (row / a.geometry.pages)
            sc sd after m.same.truth f.same.truth f.same.leaves (rw goes.geometry within) (still shut) in
            let one = (out shut).fewer in
            omega arith;
      }

  -- whatever is answered of the page that follows
  pub moved_result : (key' : Key) (result : Result (Unit {0}) EngineFault) → IsRam c → IsRam d → row < row_count a.geometry
      → keys_of c.mapping.cached ≡ keys_of a.mapping.cached → key' ≡ key → IsRenewed key a x c y
      → (is_shut a.blocks (row / a.geometry.pages) ≡ true → IsMovedOut row a x c y)
      → MatchResult result (λ done. IsFollowedBy key' c y d z) (Refused c y d z)
      → MatchResult result (λ done. IsMovedPage key row a x d z) (Refused a x d z)
  moved_result key' (Ok done) sc sd lt keys is m out f = moved_page sc sd lt keys m out (subst (λ k. IsFollowedBy k c y d z) is f)
  moved_result key' (Err fault) sc sd lt keys is m out k = refused_then a c d x y z goes after fault m.same k

-- no sector more is moved, and the pin stays
pub moved_beside : (key key' : Key) (at : ℕ) (a c d : Ram) (result : Result (Unit {0}) EngineFault) → Goes a d → SetsMapping key at a.mapping c.mapping
    → KeepsKeys a.mapping d.mapping → d.pin ≡ a.pin → key' ≡ key → OnOk result (IsFollowed key' c.mapping d.mapping) → OnOk result (LeavesPin a d)
moved_beside key key' at a c d (Ok done) goes sets keys pin is follows = followed_beside key at a d c.mapping pin goes keys sets (subst (λ k. IsFollowed k c.mapping d.mapping) is follows)
moved_beside key key' at a c d (Err fault) goes sets keys pin is follows = tt

-- nor more than one where that page is refused
pub moved_more : (key : Key) (at : ℕ) (a c d : Ram) (result : Result (Unit {0}) EngineFault) → SetsMapping key at a.mapping c.mapping → OnErr result (d.mapping ≡ c.mapping)
    → OnOk result (LeavesPin a d) → length d.mapping.moved ≤ length a.mapping.moved + 1
moved_more key at a c d (Ok done) sets unmoved beside = up_to_more (length d.mapping.moved) (length a.mapping.moved) beside.fewer
moved_more key at a c d (Err fault) sets unmoved beside = one_more_set key at a a c.mapping d.mapping refl sets unmoved

-- ---- what it costs

-- nothing was programmed so far
none_programmed : (a : Ram) → IsRam a → HasProgrammed a a 0 0
none_programmed a s = record { account = no_page a.geometry.pages (counts_of a.blocks) (fit a s); next = omega arith }

-- one page was
one_programmed : (a c : Ram) → IsRam a → (cost : HasCopied false a c) → HasProgrammed a c (0 + data_of cost.stream) (0 + meta_of cost.stream)
one_programmed a c s cost = programmed_more cost.stream a a c 0 0 refl (none_programmed a s) cost.put

-- nothing was written behind it, or a translation page
behind_or : (key : Key) (c d : Ram) → PutsBehind key c d → (d ≡ c) ⊎ HasPut Meta c d
behind_or (Sector n) c d (inl x) = inl x.1
behind_or (Sector n) c d (inr x) = inr x.1
behind_or (Translation t) c d x = inl x
behind_or (Table u) c d x = inl x

moved_costs : (key : Key) (at : ℕ) (a c d : Ram) → IsRam a → c.geometry ≡ a.geometry → HasCopied false a c → SetsMapping key at a.mapping c.mapping → PutsBehind key c d → IsFollowed key c.mapping d.mapping → HasRescuedPage a d
moved_costs key at a c d s g cost sets behind mapping =
    let copied : HasCopied false a c = record { stream = cost.stream; put = cost.put; key = key; row = at; sets = sets; moved = cost.moved; due = cost.due } in
    let p = one_programmed a c s cost in
    let P : Ram → Type 0 = λ z. HasProgrammed a z (0 + data_of cost.stream) (0 + meta_of cost.stream) in
    elim (behind_or key c d behind) [
      | inl stays ↦ record {
        mid = c;
        copied = copied;
        behind = behind;
        mapping = mapping;
        data_pages = 0 + data_of cost.stream;
        meta_pages = 0 + meta_of cost.stream;
        some = omega (arith, one_of cost.stream);
        few = omega (arith, one_of cost.stream);
        programmed = subst P (sym stays) p;
      }
      | inr put ↦ record {
        mid = c;
        copied = copied;
        behind = behind;
        mapping = mapping;
        data_pages = 0 + data_of cost.stream + data_of Meta;
        meta_pages = 0 + meta_of cost.stream + meta_of Meta;
        some = omega (arith, one_of cost.stream, one_of Meta);
        few = omega (arith, one_of cost.stream, one_of Meta);
        programmed = programmed_more Meta a c d (0 + data_of cost.stream) (0 + meta_of cost.stream) g p put;
      }
    ]

-- the copy was refused
pub uncopied_cost : (a c : Ram) (fault : EngineFault) → IsRam a → FaultCosts a c fault → RescueCosts a c (Err fault)
uncopied_cost a c ReadOnly s out = record { mid = a; data_pages = 0; meta_pages = 0; few = omega arith; programmed = none_programmed a s; out = out }
uncopied_cost a c SequenceSpent s spent = record { mid = a; data_pages = 0; meta_pages = 0; few = omega arith; programmed = none_programmed a s; spent = spent }
uncopied_cost a c Damaged s k = tt
uncopied_cost a c Bus s k = tt

-- or the translation page
unfollowed_cost : (a c d : Ram) (fault : EngineFault) → IsRam a → HasCopied false a c → FaultCosts c d fault → RescueCosts a d (Err fault)
unfollowed_cost a c d ReadOnly s cost out = record { mid = c; data_pages = 0 + data_of cost.stream; meta_pages = 0 + meta_of cost.stream; few = omega (arith, one_of cost.stream); programmed = one_programmed a c s cost; out = out }
unfollowed_cost a c d SequenceSpent s cost spent = record { mid = c; data_pages = 0 + data_of cost.stream; meta_pages = 0 + meta_of cost.stream; few = omega (arith, one_of cost.stream); programmed = one_programmed a c s cost; spent = spent }
unfollowed_cost a c d Damaged s cost k = tt
unfollowed_cost a c d Bus s cost k = tt

pub moved_cost : (key key' : Key) (at : ℕ) (a c d : Ram) (result : Result (Unit {0}) EngineFault) → IsRam a → c.geometry ≡ a.geometry → HasCopied false a c
    → SetsMapping key at a.mapping c.mapping → key' ≡ key → FollowCosts key' c d result → OnOk result (IsFollowed key' c.mapping d.mapping)
    → RescueCosts a d (moved_answer result)
moved_cost key key' at a c d (Ok done) s g cost sets is behind follows = moved_costs key at a c d s g cost sets (subst (λ k. PutsBehind k c d) is behind) (subst (λ k. IsFollowed k c.mapping d.mapping) is follows)
moved_cost key key' at a c d (Err fault) s g cost sets is behind follows = unfollowed_cost a c d fault s cost behind

-- ---- by what is answered

answered_beside : (a b d : Ram) (result : Result (Unit {0}) EngineFault) → b ≡ a → OnOk result (LeavesPin b d) → OnOk (moved_answer result) (LeavesPin a d)
answered_beside a b d (Ok done) same k = at_start (λ z. LeavesPin z d) a b same k
answered_beside a b d (Err fault) same k = tt

answered_truth : (tells : Bool → Type 0) (key : Key) (row : ℕ) (a b d : Ram) (x x1 z : Image) (result : Result (Unit {0}) EngineFault) → b ≡ a → x1 ≡ x
    → (IsMovedPage key row a x d z → tells true) → MatchResult result (λ done. IsMovedPage key row b x1 d z) (Refused b x1 d z) → MatchResult (moved_answer result) tells (Refused a x d z)
answered_truth tells key row a b d x x1 z (Ok done) same still by m =
    let P : Ram → Image → Type 0 = λ r i. IsMovedPage key row r i d z in
    by (subst (λ r. P r x) same (subst (P b) still m))
answered_truth tells key row a b d x x1 z (Err fault) same still by k =
    let P : Ram → Image → Type 0 = λ r i. Refused r i d z fault in
    subst (λ r. P r x) same (subst (P b) still k)

answered_not_bus : (result : Result (Unit {0}) EngineFault) → moved_answer result ≢ err_as Bool Bus → result ≢ err_as (Unit {0}) Bus
answered_not_bus result ne is = ne (ap moved_answer is)

answered_bus : (result : Result (Unit {0}) EngineFault) → moved_answer result ≡ err_as Bool Bus → result ≡ err_as (Unit {0}) Bus
answered_bus (Ok done) is = absurd (ok_not_bus true is)
answered_bus (Err fault) is = err_same fault Bus is

answered_acts : {N : Type 0} {view : View N} (a b : Engine N) (result : Result (Unit {0}) EngineFault) → EngineActs view a b result → EngineActs view a b (moved_answer result)
answered_acts a b (Ok done) p = acts_ok a b done true p
answered_acts a b (Err fault) p = acts_err a b fault p

-- ---- the call that looks for the page: no place is left for it

pub moves_full : {N : Type 0} {view : View N} (tells : Ram → Image → Ram → Image → Bool → Type 0) (a : Engine N) → IsSafe view.flash a
    → (length a.mapping.moved < waiting (ram a) + a.geometry.pages → ⊥) → MovesOne view tells a a (Err Damaged)
moves_full tells a safe none = record {
  moves = record {
    acts = acts_end a a tt Damaged damaged_apart (acts_same a safe);
    goes = goes_same (ram a);
    erases = refl;
    keys = keys_same a.mapping a.mapping refl;
    beside = tt;
    pin = refl;
    one_more = up_to_one (length a.mapping.moved);
  };
  full = λ is. (refl, refl);
  cost = tt;
  truth = λ known w room. absurd (none room);
  stops = λ known w ne. leaves_nothing _ _ _ (same_left (ram a) _ _ safe.memory w);
  cut = λ known w is. absurd (err_apart Damaged damaged_apart is);
}

unread_cost : (a b : Ram) (fault : EngineFault) → IsReadFault fault → RescueCosts a b (Err fault)
unread_cost a b ReadOnly is = absurd is
unread_cost a b SequenceSpent is = absurd is
unread_cost a b Damaged is = tt
unread_cost a b Bus is = tt

not_full : {A : Type 0} (n m : ℕ) → n < m → n ≡ m → A
not_full {A} n m lt is = absurd (omega arith)

-- the look was refused, found none, or found the page that was moved then
module _ {N : Type 0} {view : View N} (tells : Ram → Image → Ram → Image → Bool → Type 0) (a b : Engine N) (safe : IsSafe view.flash a) (room : length a.mapping.moved < waiting (ram a) + a.geometry.pages) where
  pub moves_unread : {A : Type 0} (fault : EngineFault) → EngineLooks view a b (err_as A fault)
      → (view.honest a.nand ≡ true → IsTrue None (ram a) (image_in view.flash a) → fault ≡ Bus) → MovesOne view tells a b (Err fault)
  moves_unread {A} fault p known = record {
    moves = record {
      acts = acts_err a b fault (looked a b (err_as A fault) p);
      goes = goes_is (ram a) (ram b) p.memory;
      erases = p.only_reads.erases_are;
      keys = keys_is (ram a) (ram b) p.memory;
      beside = tt;
      pin = ap (λ r. r.pin) p.memory;
      one_more = one_more_is a.mapping b.mapping (ap (λ r. r.mapping) p.memory);
    };
    full = λ is. not_full _ _ room is;
    cost = unread_cost (ram a) (ram b) fault p.faults;
    truth = λ honest w lt. refused_bus (ram a) (ram b) _ _ fault (known honest w);
    stops = λ honest w ne. absurd (fault_not_bus fault ne (known honest w));
    cut = λ honest w is. cut_read (ram a) _ _ _ safe.memory w (p.cut honest (err_same fault Bus is));
  }

  pub moves_none : {A : Type 0} (x : A) → EngineLooks view a b (ok_as x)
      → (view.honest a.nand ≡ true → IsTrue None (ram a) (image_in view.flash a) → tells (ram a) (image_in view.flash a) (ram b) (image_in view.flash b) false)
      → MovesOne view tells a b (Ok false)
  moves_none x p known = record {
    moves = record {
      acts = acts_ok a b x false (looked a b (ok_as x) p);
      goes = goes_is (ram a) (ram b) p.memory;
      erases = p.only_reads.erases_are;
      keys = keys_is (ram a) (ram b) p.memory;
      beside = beside_is (ram a) (ram b) p.memory;
      pin = ap (λ r. r.pin) p.memory;
      one_more = one_more_is a.mapping b.mapping (ap (λ r. r.mapping) p.memory);
    };
    full = λ is. not_full _ _ room is;
    cost = p.memory;
    truth = λ honest w lt. known honest w;
    stops = λ honest w ne. leaves_still _ _ _ _ _ (p.same honest (ok_not_bus x)) (p.told honest (ok_not_bus x)) (same_left (ram a) _ _ safe.memory w);
    cut = λ honest w is. absurd (ok_not_bus false is);
  }

  pub moves_found : {A : Type 0} (x : A) (found : Record) (row : ℕ) (d : Engine N) (result : Result (Unit {0}) EngineFault) → EngineLooks view a b (ok_as x)
      → (view.honest a.nand ≡ true → IsTrue None (ram a) (image_in view.flash a) → IsLivePage row b.page.body.items found (image_in view.flash a))
      → (view.honest a.nand ≡ true → IsTrue None (ram a) (image_in view.flash a) → IsMovedPage (key_of found) row (ram a) (image_in view.flash a) (ram d) (image_in view.flash d) → tells (ram a) (image_in view.flash a) (ram d) (image_in view.flash d) true)
      → MovesPage view found row b d result → MovesOne view tells a d (moved_answer result)
  moves_found x found row d result p live by m =
      let still : view.honest a.nand ≡ true → image_in view.flash b ≡ image_in view.flash a = λ honest. ap (λ f. f.image) (p.same honest (ok_not_bus x)) in
      let seen : view.honest a.nand ≡ true → IsTrue None (ram a) (image_in view.flash a) → IsTrue None (ram b) (image_in view.flash b) = λ honest w.
      subst (λ r. IsTrue None r (image_in view.flash b)) (sym p.memory) (subst (λ i. IsTrue None (ram a) i) (sym (still honest)) w) in
      let there : view.honest a.nand ≡ true → IsTrue None (ram a) (image_in view.flash a) → IsLivePage row b.page.body.items found (image_in view.flash b) = λ honest w.
      subst (λ i. IsLivePage row b.page.body.items found i) (sym (still honest)) (live honest w) in
      let now : view.honest a.nand ≡ true → view.honest b.nand ≡ true = λ honest. p.only_reads.honest_is ∙ honest in
      record {
        moves = record {
          acts = acts_then a b d x (moved_answer result) (ap (λ r. r.geometry) p.memory) (looked a b (ok_as x) p) (answered_acts b d result m.moves.acts);
          goes = at_start (λ z. Goes z (ram d)) (ram a) (ram b) p.memory m.moves.goes;
          erases = m.moves.erases ∙ p.only_reads.erases_are;
          keys = keys_from (ram a) (ram b) d.mapping p.memory m.moves.keys;
          beside = answered_beside (ram a) (ram b) (ram d) result p.memory m.moves.beside;
          pin = m.moves.pin ∙ ap (λ r. r.pin) p.memory;
          one_more = at_start (λ z. length d.mapping.moved ≤ length z.mapping.moved + 1) (ram a) (ram b) p.memory m.moves.one_more;
        };
        full = λ is. not_full _ _ room is;
        cost = at_start (λ z. RescueCosts z (ram d) (moved_answer result)) (ram a) (ram b) p.memory m.cost;
        truth = λ honest w lt. answered_truth (tells (ram a) (image_in view.flash a) (ram d) (image_in view.flash d)) (key_of found) row (ram a) (ram b) (ram d) _ _ _ result p.memory (still honest) (by honest w) (m.truth (now honest) (seen honest w) (there honest w));
        stops = λ honest w ne. stops_looked (ram a) (ram b) _ _ _ _ _ _ p.memory (p.same honest (ok_not_bus x)) (p.told honest (ok_not_bus x)) (m.stops (now honest) (seen honest w) (there honest w) (answered_not_bus result ne));
        cut = λ honest w is. cut_looking (ram a) (ram b) _ _ _ _ _ p.memory (p.same honest (ok_not_bus x)) (p.told honest (ok_not_bus x)) (m.cut (now honest) (seen honest w) (there honest w) (answered_bus result is));
      }
