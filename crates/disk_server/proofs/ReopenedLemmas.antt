-- What a call of a device comes to that is opened anew where its store was full.
use Rattle.std.proofs.Common.{◌≡◌, ◌*◌, ◌&&◌, inl, inr, ℕ, Bool, true, false, List, [], Option, Some, None, Result, Ok, Err, length, refl, sym, ap, ◌∙◌, subst}
use Rattle.std.specs.Prelude.{not, OnOk, slice_index}
use Rattle.std.proofs.lemmas.List.{length-replicate}
use Rattle.onfi_cycles.specs.Driver.{DriverState}
use Rattle.file_die.specs.Die.{FileState}
use Rattle.file_die.specs.Store.{Held}
use Rattle.ftl_device.specs.declared.device.Device.{Device}
use Rattle.nbd_stream.specs.declared.fault.DiskFault.{DiskFault}
use Rattle.nbd_stream.specs.declared.fault.DiskFault.TheVariants as fault
use Rattle.nbd_stream.specs.declared.reply.RequestError.{RequestError}
use Rattle.nbd_stream.specs.declared.reply.RequestError.TheVariants.{InputOutput}
use Rattle.nbd_stream.specs.declared.task.Task.{Task}
use Rattle.nbd_stream.specs.Disk.{Contents, Idles, MayFailWith, PerformsTask, TaskSteps, answer_from, error_for}
use Rattle.disk_server.specs.Asked.{HasZeros, SparesZeros}
use Rattle.disk_server.specs.Disk.{ReadsAsDevice, contents_of, holds}
use Rattle.disk_server.specs.Opened.{is_honest_in, view_in}
use Rattle.nbd_stream.specs.declared.task.Task.TheVariants.{Read}
use Rattle.disk_server.specs.Reopened.{AnewLaw, AreReopenedParts, GoneLaw, HasDevice, IsAnew, TermsLaw, IsGone, IsOpenedFrom, ReadsDevice, Reopened, Reopens, SettlesCall, Terms, bytes_by, contents_in, holds_by, holds_in, reads_of, terms_of}

both : (a b : Bool) → (a && b) ≡ true → (a ≡ true) × (b ≡ true)
both true true e = (refl, refl)
both true false e = (let no : ⊥ = cc in absurd no)
both false b e = (let no : ⊥ = cc in absurd no)

joined : (a b : Bool) → a ≡ true → b ≡ true → (a && b) ≡ true
joined true true e f = refl
joined true false e f = f
joined false b e f = e

never : (b : Bool) → b ≡ false → b ≡ true → ⊥
never true e f = (let no : ⊥ = cc in no)
never false e f = (let no : ⊥ = cc in no)

on_ok : {X E A B : Type 0} → (answer : Result X E) → (A → B) → OnOk answer A → OnOk answer B
on_ok (Ok x) f h = f h
on_ok (Err e) f h = tt

module _ {S : Type 0} (held : S → Held) (honest : S → Bool) (failed : S → ℕ) where
  abbrev pub at : Device (DriverState (FileState S)) → Contents
  at d = contents_of (view_in held honest failed) d

  abbrev pub going : Device (DriverState (FileState S)) → Bool
  going d = holds (is_honest_in honest) d

  shown_as : (r : Reopened S) (d : Device (DriverState (FileState S))) → r.device ≡ Some d → contents_in held honest failed r ≡ at d
  shown_as r d is = ap (λ (o : Option (Device (DriverState (FileState S)))). record { bytes = bytes_by held honest failed r.size r.count o; durable = bytes_by held honest failed r.size r.count o }) is

  holds_as : (r : Reopened S) (d : Device (DriverState (FileState S))) → r.device ≡ Some d → holds_in honest r ≡ (not r.reopened && going d)
  holds_as r d is = ap (holds_by honest r.reopened) is

  long_as : (r : Reopened S) (d : Device (DriverState (FileState S))) → r.device ≡ Some d → length (at d).bytes ≡ r.count * r.size → length (contents_in held honest failed r).bytes ≡ r.count * r.size
  long_as r d is long = ap (λ (c : Contents). length c.bytes) (shown_as r d is) ∙ long

  long_none : (r : Reopened S) → r.device ≡ None → length (contents_in held honest failed r).bytes ≡ r.count * r.size
  long_none r is = ap (λ (o : Option (Device (DriverState (FileState S)))). length (bytes_by held honest failed r.size r.count o)) is ∙ length-replicate {A = ℕ} (r.count * r.size) 0

  -- THE DEVICE GOES ON
  module _ (old new : Reopened S) (d left : Device (DriverState (FileState S))) (was : old.device ≡ Some d) (there : HasDevice (terms_of old) old.reopened old.next (Some left) new) where
    as_held : going left ≡ going d → holds_in honest new ≡ holds_in honest old
    as_held same = holds_as new left there.device_is ∙ ap (λ (b : Bool). not b && going left) there.reopened_is ∙ ap (λ (h : Bool). not old.reopened && h) same ∙ sym (holds_as old d was)

    left_holds : holds_in honest new ≡ true → going left ≡ true
    left_holds h = (both (not new.reopened) (going left) (sym (holds_as new left there.device_is) ∙ h)).1

    held_before : (going left ≡ true → going d ≡ true) → holds_in honest new ≡ true → holds_in honest old ≡ true
    held_before back h =
        let parts = both (not new.reopened) (going left) (sym (holds_as new left there.device_is) ∙ h) in
        holds_as old d was ∙ joined (not old.reopened) (going d) (ap not (sym there.reopened_is) ∙ parts.0) (back parts.1)

    same_long : length (at left).bytes ≡ length (at d).bytes → length (contents_in held honest failed new).bytes ≡ length (contents_in held honest failed old).bytes
    same_long same = ap (λ (c : Contents). length c.bytes) (shown_as new left there.device_is) ∙ same ∙ sym (ap (λ (c : Contents). length c.bytes) (shown_as old d was))

    pub goes_on : (task : Task) (body : List ℕ) (answer : Result (List ℕ) RequestError) → PerformsTask at going (λ x. false) task body d answer left
        → PerformsTask (contents_in held honest failed) (holds_in honest) (λ x. false) task body old answer new
    goes_on task body answer p = record {
      sized = same_long p.sized;
      kept = on_ok answer as_held p.kept;
      back = held_before p.back;
      calm_is = refl;
      fault = p.fault;
      given = p.given;
      calmly = λ calm. (let no : ⊥ = cc in absurd no);
      steps = λ h. subst (λ (c : Contents). TaskSteps task body c answer (contents_in held honest failed new)) (sym (shown_as old d was))
          (subst (λ (c : Contents). TaskSteps task body (at d) answer c) (sym (shown_as new left there.device_is)) (p.steps (left_holds h)));
    }

    pub idles_on : (answer : Result (Unit {0}) DiskFault) → Idles at going (λ x. false) d answer left → Idles (contents_in held honest failed) (holds_in honest) (λ x. false) old answer new
    idles_on answer p =
        let same : holds_in honest new ≡ true → (contents_in held honest failed new).bytes ≡ (contents_in held honest failed old).bytes =
        λ h. (ap (λ (c : Contents). c.bytes) (shown_as new left there.device_is) ∙ p.bytes (left_holds h) ∙ sym (ap (λ (c : Contents). c.bytes) (shown_as old d was))) in
        record {
          sized = same_long p.sized;
          kept = on_ok answer as_held p.kept;
          was_honest = held_before p.was_honest;
          calm_is = refl;
          fault = p.fault;
          calmly = λ calm. (let no : ⊥ = cc in absurd no);
          bytes = same;
          stays = λ h place. inl (ap (λ (l : List ℕ). slice_index l place) (same h));
        }

  -- IT HOLDS NO MORE
  pub ends : (task : Task) (body : List ℕ) (old new : Reopened S) (e : RequestError) → holds_in honest new ≡ false → length (contents_in held honest failed new).bytes ≡ length (contents_in held honest failed old).bytes → MayFailWith task e
      → PerformsTask (contents_in held honest failed) (holds_in honest) (λ x. false) task body old (Err e) new
  ends task body old new e over same may = record {
    sized = same;
    kept = tt;
    back = λ h. absurd (never (holds_in honest new) over h);
    calm_is = refl;
    fault = may;
    given = tt;
    calmly = λ calm. (let no : ⊥ = cc in absurd no);
    steps = λ h. absurd (never (holds_in honest new) over h);
  }

  pub idle_ends : (old new : Reopened S) → holds_in honest new ≡ false → length (contents_in held honest failed new).bytes ≡ length (contents_in held honest failed old).bytes
      → Idles (contents_in held honest failed) (holds_in honest) (λ x. false) old (Err fault.Failed) new
  idle_ends old new over same = record {
    sized = same;
    kept = tt;
    was_honest = λ h. absurd (never (holds_in honest new) over h);
    calm_is = refl;
    fault = refl;
    calmly = λ calm. (let no : ⊥ = cc in absurd no);
    bytes = λ h. absurd (never (holds_in honest new) over h);
    stays = λ h place. absurd (never (holds_in honest new) over h);
  }

  module _ (full : S → Bool) (old new : Reopened S) (d left : Device (DriverState (FileState S))) (was : old.device ≡ Some d) (long : length (at d).bytes ≡ old.count * old.size) where
    anew_no : Reopens held honest full failed (terms_of old) left new → holds_in honest new ≡ false
    anew_no r = holds_as new r.device r.there.device_is ∙ ap (λ (b : Bool). not b && going r.device) r.there.reopened_is

    anew_long : Reopens held honest full failed (terms_of old) left new → length (contents_in held honest failed new).bytes ≡ length (contents_in held honest failed old).bytes
    anew_long r = ap (λ (c : Contents). length c.bytes) (shown_as new r.device r.there.device_is) ∙ r.long ∙ sym (long_as old d was long)

    gone_no : IsGone held honest full failed (terms_of old) old.reopened left new → holds_in honest new ≡ false
    gone_no r = ap (holds_by honest new.reopened) r.none.device_is

    gone_long : IsGone held honest full failed (terms_of old) old.reopened left new → length (contents_in held honest failed new).bytes ≡ length (contents_in held honest failed old).bytes
    gone_long r = long_none new r.none.device_is ∙ ap (λ t. t.count * t.size) r.none.terms_are ∙ sym (long_as old d was long)

    -- A CALL AND WHAT IT COMES TO, as a task
    pub performs : (told : DiskFault) (task : Task) (body : List ℕ) (answer result : Result (Unit {0}) DiskFault) → MayFailWith task (error_for told) → MayFailWith task InputOutput
        → PerformsTask at going (λ x. false) task body d (answer_from answer []) left → SettlesCall held honest full failed told (terms_of old) old.reopened old.next left answer result new
        → PerformsTask (contents_in held honest failed) (holds_in honest) (λ x. false) task body old (answer_from result []) new
    performs told task body (Ok done) result may input p s =
        subst (λ r. PerformsTask (contents_in held honest failed) (holds_in honest) (λ x. false) task body old (answer_from r []) new) (sym s.0) (goes_on old new d left was s.1 task body (Ok []) p)
    performs told task body (Err fault.ReadOnly) result may input p s =
        subst (λ r. PerformsTask (contents_in held honest failed) (holds_in honest) (λ x. false) task body old (answer_from r []) new) (sym s.0) (goes_on old new d left was s.1 task body (Err (error_for fault.ReadOnly)) p)
    performs told task body (Err fault.NoSpace) result may input p s =
        subst (λ r. PerformsTask (contents_in held honest failed) (holds_in honest) (λ x. false) task body old (answer_from r []) new) (sym s.0) (goes_on old new d left was s.1 task body (Err (error_for fault.NoSpace)) p)
    performs told task body (Err fault.Failed) result may input p (inl s) =
        subst (λ r. PerformsTask (contents_in held honest failed) (holds_in honest) (λ x. false) task body old (answer_from r []) new) (sym s.0) (ends task body old new (error_for told) (anew_no s.1) (anew_long s.1) may)
    performs told task body (Err fault.Failed) result may input p (inr s) =
        subst (λ r. PerformsTask (contents_in held honest failed) (holds_in honest) (λ x. false) task body old (answer_from r []) new) (sym s.0) (ends task body old new InputOutput (gone_no s.1) (gone_long s.1) input)

    -- as a rest
    pub idles : (answer result : Result (Unit {0}) DiskFault) → Idles at going (λ x. false) d answer left → SettlesCall held honest full failed fault.Failed (terms_of old) old.reopened old.next left answer result new
        → Idles (contents_in held honest failed) (holds_in honest) (λ x. false) old result new
    idles (Ok done) result p s = subst (λ r. Idles (contents_in held honest failed) (holds_in honest) (λ x. false) old r new) (sym s.0) (idles_on old new d left was s.1 (Ok done) p)
    idles (Err fault.ReadOnly) result p s = subst (λ r. Idles (contents_in held honest failed) (holds_in honest) (λ x. false) old r new) (sym s.0) (idles_on old new d left was s.1 (Err fault.ReadOnly) p)
    idles (Err fault.NoSpace) result p s = subst (λ r. Idles (contents_in held honest failed) (holds_in honest) (λ x. false) old r new) (sym s.0) (idles_on old new d left was s.1 (Err fault.NoSpace) p)
    idles (Err fault.Failed) result p (inl s) = subst (λ r. Idles (contents_in held honest failed) (holds_in honest) (λ x. false) old r new) (sym s.0) (idle_ends old new (anew_no s.1) (anew_long s.1))
    idles (Err fault.Failed) result p (inr s) = subst (λ r. Idles (contents_in held honest failed) (holds_in honest) (λ x. false) old r new) (sym s.0) (idle_ends old new (gone_no s.1) (gone_long s.1))

    -- a sector that is cleared
    spared_on : (offset count : ℕ) → SparesZeros at going (reads_of held honest failed) offset count d left → HasDevice (terms_of old) old.reopened old.next (Some left) new
        → SparesZeros (contents_in held honest failed) (holds_in honest) (ReadsDevice (reads_of held honest failed)) offset count old new
    spared_on offset count spares there h zeros = inr (record {
      device = d;
      was = was;
      left = left;
      asked = spares (left_holds old new d left was there h) (subst (λ (c : Contents). HasZeros offset count c.bytes) (shown_as old d was) zeros);
      there = there;
    })

    pub spared : (told : DiskFault) (offset count : ℕ) (answer result : Result (Unit {0}) DiskFault) → SparesZeros at going (reads_of held honest failed) offset count d left
        → SettlesCall held honest full failed told (terms_of old) old.reopened old.next left answer result new
        → SparesZeros (contents_in held honest failed) (holds_in honest) (ReadsDevice (reads_of held honest failed)) offset count old new
    spared told offset count (Ok done) result spares s = spared_on offset count spares s.1
    spared told offset count (Err fault.ReadOnly) result spares s = spared_on offset count spares s.1
    spared told offset count (Err fault.NoSpace) result spares s = spared_on offset count spares s.1
    spared told offset count (Err fault.Failed) result spares (inl s) = λ h zeros. absurd (never (holds_in honest new) (anew_no s.1) h)
    spared told offset count (Err fault.Failed) result spares (inr s) = λ h zeros. absurd (never (holds_in honest new) (gone_no s.1) h)

-- the store of a device that has stopped was full, and was opened
pub reopens : {S : Type 0} (held : S → Held) (honest full : S → Bool) (failed : S → ℕ) (terms : Terms) (left : Device (DriverState (FileState S))) (new : Reopened S) (store : S) → store ≡ left.engine.nand.bus.store → full store ≡ true
    → (next : ℕ) → next ≡ left.engine.next
    → ((d : Device (DriverState (FileState S))) × IsOpenedFrom held honest failed terms store d × HasDevice terms true next (Some d) new × (length (contents_of (view_in held honest failed) d).bytes ≡ terms.count * terms.size))
    → Reopens held honest full failed terms left new
reopens held honest full failed terms left new store same is next last opened = record {
  was_full = ap full (sym same) ∙ is;
  device = opened.0;
  opened = subst (λ s. IsOpenedFrom held honest failed terms s opened.0) same opened.1;
  long = opened.3;
  there = subst (λ n. HasDevice terms true n (Some opened.0) new) last opened.2;
}

some_same : {A : Type 0} (x y : A) → Some x ≡ Some y → x ≡ y
some_same x y e = cc

-- another device of the same sectors
pub parts_on : {S : Type 0} (size count capacity : ℕ) (device : Option (Device (DriverState (FileState S)))) (d left : Device (DriverState (FileState S))) → device ≡ Some d → AreReopenedParts size count capacity device
    → left.engine.geometry.data_bytes ≡ d.engine.geometry.data_bytes → left.engine.geometry.sectors ≡ d.engine.geometry.sectors → AreReopenedParts size count capacity (Some left)
parts_on size count capacity device d left was parts sizes counts = record {
  some = parts.some;
  bounded = parts.bounded;
  least = parts.least;
  most = parts.most;
  sized = λ x is. (let same : left ≡ x = some_same left x is in ap (λ y. y.engine.geometry.data_bytes) (sym same) ∙ sizes ∙ parts.sized d was);
  counted = λ x is. (let same : left ≡ x = some_same left x is in ap (λ y. y.engine.geometry.sectors) (sym same) ∙ counts ∙ parts.counted d was);
}

-- what was given of a sector, by the device that was there
pub given_of : {S : Type 0} (held : S → Held) (honest : S → Bool) (failed : S → ℕ) (n size : ℕ) (before after : Option (Device (DriverState (FileState S)))) (d left : Device (DriverState (FileState S)))
    (result : Result (Unit {0}) DiskFault) (bytes : List ℕ) → before ≡ Some d → after ≡ Some left
    → PerformsTask (contents_of (view_in held honest failed)) (holds (is_honest_in honest)) (λ x. false) (Read (n * size) size) [] d (answer_from result bytes) left → ReadsAsDevice n d result bytes left
    → (x : Device (DriverState (FileState S))) → before ≡ Some x
    → (y : Device (DriverState (FileState S))) × (after ≡ Some y) × PerformsTask (contents_of (view_in held honest failed)) (holds (is_honest_in honest)) (λ z. false) (Read (n * size) size) [] x (answer_from result bytes) y × ReadsAsDevice n x result bytes y
given_of held honest failed n size before after d left result bytes was is p answers = λ x there. (
  left,
  is,
  subst
      (λ y. PerformsTask (contents_of (view_in held honest failed)) (holds (is_honest_in honest)) (λ z. false) (Read (n * size) size) [] y
      (answer_from result bytes) left) (some_same d x (sym was ∙ there)) p,
  subst (λ y. ReadsAsDevice n y result bytes left) (some_same d x (sym was ∙ there)) answers,
)

-- the terms stay
pub settled_terms : {S : Type 0} (held : S → Held) (honest full : S → Bool) (failed : S → ℕ) (told : DiskFault) (terms : Terms) (reopened : Bool) (next : ℕ) (left : Device (DriverState (FileState S))) (answer result : Result (Unit {0}) DiskFault) (new : Reopened S)
    → SettlesCall held honest full failed told terms reopened next left answer result new → terms_of new ≡ terms
settled_terms held honest full failed told terms reopened next left (Ok done) result new s = s.1.terms_are
settled_terms held honest full failed told terms reopened next left (Err fault.ReadOnly) result new s = s.1.terms_are
settled_terms held honest full failed told terms reopened next left (Err fault.NoSpace) result new s = s.1.terms_are
settled_terms held honest full failed told terms reopened next left (Err fault.Failed) result new (inl s) = s.1.there.terms_are
settled_terms held honest full failed told terms reopened next left (Err fault.Failed) result new (inr s) = s.1.none.terms_are

-- ---- the laws

module _ {S : Type 0} (held : S → Held) (honest full : S → Bool) (failed : S → ℕ) where
  pub gone_law : GoneLaw held honest full failed
  gone_law told old new result (inl none) gone = (none.told, none.same.device_is)
  gone_law told old new result (inr one) gone = absurd (let no : None ≡ Some one.device = sym gone ∙ one.was in cc)

  pub terms_law : TermsLaw held honest full failed
  terms_law told old new result (inl none) = none.same.terms_are
  terms_law told old new result (inr one) = settled_terms held honest full failed told (terms_of old) old.reopened old.next one.left one.answer result new one.settles

  -- nothing was opened
  not_anew : {terms : Terms} {next : ℕ} {device : Option (Device (DriverState (FileState S)))} (before : Bool) (new : Reopened S) → HasDevice terms before next device new → before ≡ false → new.reopened ≡ true → ⊥
  not_anew before new has was is = never before was (sym has.reopened_is ∙ is)

  settled_anew : (told : DiskFault) (terms : Terms) (before : Bool) (next : ℕ) (left : Device (DriverState (FileState S))) (answer result : Result (Unit {0}) DiskFault) (new : Reopened S)
      → SettlesCall held honest full failed told terms before next left answer result new → before ≡ false → new.reopened ≡ true → IsAnew held honest full failed told result new
  settled_anew told terms before next left (Ok done) result new s was is = absurd (not_anew before new s.1 was is)
  settled_anew told terms before next left (Err fault.ReadOnly) result new s was is = absurd (not_anew before new s.1 was is)
  settled_anew told terms before next left (Err fault.NoSpace) result new s was is = absurd (not_anew before new s.1 was is)
  settled_anew told terms before next left (Err fault.Failed) result new (inl s) was is = record {
    left = left.engine.nand.bus.store;
    was_full = s.1.was_full;
    answered = s.0;
    unclaimed = holds_as held honest failed new s.1.device s.1.there.device_is ∙ ap (λ (b : Bool). not b && going held honest failed s.1.device) s.1.there.reopened_is;
    bytes = λ h. ap (λ (c : Contents). c.bytes) (shown_as held honest failed new s.1.device s.1.there.device_is) ∙ s.1.opened.bytes h;
    clear = λ h d there. subst (λ (x : Device (DriverState (FileState S))). x.engine.nand.told.at_hand ≡ []) (some_same s.1.device d (sym s.1.there.device_is ∙ there)) (s.1.opened.clear h);
  }
  settled_anew told terms before next left (Err fault.Failed) result new (inr s) was is = absurd (not_anew before new s.1.none was is)

  pub anew_law : AnewLaw held honest full failed
  anew_law told old new result (inl none) was is = absurd (not_anew old.reopened new none.same was is)
  anew_law told old new result (inr one) was is = settled_anew told (terms_of old) old.reopened old.next one.left one.answer result new one.settles was is
