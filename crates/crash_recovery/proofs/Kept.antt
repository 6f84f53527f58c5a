-- What calls over a store keep of it, one after another.
use Rattle.std.proofs.Common.{◌≡◌, ◌∙◌, ℕ, Bool, true, false, List, length, refl, sym, ap, subst}
use Rattle.std.specs.Prelude.{is_ok, IsErr, OnOk, OnErr, Result, Ok, Err}
use Rattle.page_layout.specs.declared.geometry.Geometry.{Geometry}
use Rattle.page_layout.specs.Counter.{HasRisen}
use Rattle.page_layout.specs.Geometry.{row_count, page_bytes}
use Rattle.certificate.specs.Claim.{Claim}
use Rattle.file_die.specs.Store.{Held, AreImages}
use Rattle.image_check.specs.Agrees.{Agrees}
use Rattle.crash_recovery.specs.Asked.{CanBeLookedAt, HasLooked, IsClaimOf, KeepsAsked, TakesAway}

pub keeps_none : {S : Type 0} (held : S → Held) (honest : S → Bool) (failed : S → ℕ) (a : S) → KeepsAsked held honest failed a true a
keeps_none held honest failed a = record { geometry = refl; as_honest = refl; settled = λ e. refl; rose = λ never. absurd (cc) }

pub keeps_then : {S : Type 0} (held : S → Held) (honest : S → Bool) (failed : S → ℕ) (a b c : S) (done : Bool) → KeepsAsked held honest failed a true b → KeepsAsked held honest failed b done c → KeepsAsked held honest failed a done c
keeps_then held honest failed a b c done one two = record {
  geometry = two.geometry ∙ one.geometry;
  as_honest = two.as_honest ∙ one.as_honest;
  settled = λ e. two.settled e ∙ one.settled refl;
  rose = λ e. subst (λ n. HasRisen n (failed c)) (one.settled refl) (two.rose e);
}

-- a call of the store itself, that is done or fails
pub keeps_done : {S : Type 0} (held : S → Held) (honest : S → Bool) (failed : S → ℕ) (a b : S) → (held b).geometry ≡ (held a).geometry → honest b ≡ honest a → failed b ≡ failed a → KeepsAsked held honest failed a true b
keeps_done held honest failed a b geometry as_honest settled = record { geometry = geometry; as_honest = as_honest; settled = λ e. settled; rose = λ never. absurd (cc) }

pub keeps_undone : {S : Type 0} (held : S → Held) (honest : S → Bool) (failed : S → ℕ) (a b : S) → (held b).geometry ≡ (held a).geometry → honest b ≡ honest a → HasRisen (failed a) (failed b) → KeepsAsked held honest failed a false b
keeps_undone held honest failed a b geometry as_honest rose = record { geometry = geometry; as_honest = as_honest; settled = λ never. absurd (cc); rose = λ e. rose }

pub keeps_call : {S A E : Type 0} (held : S → Held) (honest : S → Bool) (failed : S → ℕ) (a b : S) (r : Result A E) → (held b).geometry ≡ (held a).geometry → honest b ≡ honest a → OnOk r (failed b ≡ failed a) → OnErr r (HasRisen (failed a) (failed b))
    → KeepsAsked held honest failed a (is_ok r) b
keeps_call held honest failed a b (Ok x) geometry as_honest settled rose = keeps_done held honest failed a b geometry as_honest settled
keeps_call held honest failed a b (Err e) geometry as_honest settled rose = keeps_undone held honest failed a b geometry as_honest rose

-- and its fault is handed on
pub keeps_failed : {S A E : Type 0} (held : S → Held) (honest : S → Bool) (failed : S → ℕ) (a b : S) (r : Result A E) → IsErr r → KeepsAsked held honest failed a false b → KeepsAsked held honest failed a (is_ok r) b
keeps_failed held honest failed a b (Ok x) never keeps = absurd (cc)
keeps_failed held honest failed a b (Err e) is keeps = keeps

-- ---- looks

pub looks_none : {S : Type 0} (held : S → Held) (honest : S → Bool) (failed : S → ℕ) (a : S) → HasLooked held honest failed a true a
looks_none held honest failed a = record { same = λ h. refl; keeps = keeps_none held honest failed a }

pub looks_then : {S : Type 0} (held : S → Held) (honest : S → Bool) (failed : S → ℕ) (a b c : S) (done : Bool) → HasLooked held honest failed a true b → HasLooked held honest failed b done c → HasLooked held honest failed a done c
looks_then held honest failed a b c done one two = record { same = λ h. two.same (one.keeps.as_honest ∙ h) ∙ one.same h; keeps = keeps_then held honest failed a b c done one.keeps two.keeps }

pub looks_failed : {S A E : Type 0} (held : S → Held) (honest : S → Bool) (failed : S → ℕ) (a b : S) (r : Result A E) → IsErr r → HasLooked held honest failed a false b → HasLooked held honest failed a (is_ok r) b
looks_failed held honest failed a b r is looks = record { same = looks.same; keeps = keeps_failed held honest failed a b r is looks.keeps }

-- a store that is honest can be looked at
pub can_look : {S : Type 0} (held : S → Held) (honest : S → Bool) (g : Geometry) (a : S) (page : List ℕ) → g ≡ (held a).geometry → (honest a ≡ true → AreImages (held a)) → length page ≡ page_bytes (held a).geometry
    → CanBeLookedAt held honest g a page
can_look held honest g a page is whole room = record {
  geometry = sym is;
  rows = λ h. (whole h).pages_whole.rows ∙ ap row_count (sym is);
  room = room ∙ ap page_bytes (sym is);
}

-- after one it can be looked at once more
pub looked_again : {S : Type 0} (held : S → Held) (honest : S → Bool) (failed : S → ℕ) (g : Geometry) (a b : S) (page other : List ℕ) → CanBeLookedAt held honest g a page → HasLooked held honest failed a true b → length other ≡ length page
    → CanBeLookedAt held honest g b other
looked_again held honest failed g a b page other can looks long = record {
  geometry = looks.keeps.geometry ∙ can.geometry;
  rows = λ h. let before : honest a ≡ true = sym looks.keeps.as_honest ∙ h in ap (λ (s : Held). length s.pages) (looks.same before) ∙ can.rows before;
  room = long ∙ can.room;
}

pub images_still : {S : Type 0} (held : S → Held) (honest : S → Bool) (failed : S → ℕ) (a b : S) → HasLooked held honest failed a true b → (honest a ≡ true → AreImages (held a)) → honest b ≡ true → AreImages (held b)
images_still held honest failed a b looks whole h = let before : honest a ≡ true = sym looks.keeps.as_honest ∙ h in subst AreImages (sym (looks.same before)) (whole before)

pub claim_of : (g h : Geometry) (c : Claim) → g ≡ h → IsClaimOf h c → IsClaimOf g c
claim_of g h c is claim = subst (λ (x : Geometry). IsClaimOf x c) (sym is) claim

-- ---- what was taken away

pub away_failed : {E : Type 0} (c : Claim) (some all none : Type 0) (s t : Held) (r : Result Bool E) → IsErr r → ((capacity : ℕ) → Agrees s.geometry capacity s.pages c → some) → TakesAway c some all none s r t
away_failed c some all none s t (Ok x) never takes = absurd (cc)
away_failed c some all none s t (Err e) is takes = record { takes = takes; taken = tt; untouched = tt; none_is = tt }

pub away_none : {E : Type 0} (c : Claim) (some all none : Type 0) (s t : Held) → some → t ≡ s → ((capacity : ℕ) → Agrees s.geometry capacity s.pages c → none) → TakesAway {E = E} c some all none s (Ok false) t
away_none c some all none s t as_was same whole = record {
  takes = λ capacity agrees. as_was;
  taken = λ capacity agrees never. absurd (cc);
  untouched = λ e. same;
  none_is = λ capacity agrees e. whole capacity agrees;
}

pub away_all : {E : Type 0} (c : Claim) (some all none : Type 0) (s t : Held) → ((capacity : ℕ) → Agrees s.geometry capacity s.pages c → some) → ((capacity : ℕ) → Agrees s.geometry capacity s.pages c → all)
    → TakesAway {E = E} c some all none s (Ok true) t
away_all c some all none s t takes ends = record {
  takes = takes;
  taken = λ capacity agrees e. ends capacity agrees;
  untouched = λ never. absurd (cc);
  none_is = λ capacity agrees never. absurd (cc);
}
