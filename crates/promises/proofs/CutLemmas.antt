-- Calls that a fault of the die ended, and what they may leave.
use Rattle.std.proofs.Common.{◌≡◌, ◌⊎◌, inl, inr, ℕ, List, [], ◌∷◌, ◌++◌, refl, sym, ◌∙◌, ap, subst, arith, Option, Some, None}
use Rattle.std.proofs.lemmas.List.{append_assoc}
use Rattle.page_layout.specs.declared.geometry.Geometry.{Geometry}
use Rattle.page_layout.specs.Page.{Image, IsImage}
use Rattle.page_layout.specs.Flash.{Flash, Operation, Leads}
use Rattle.page_layout.specs.Recording.{Recording, EndsAt, EndsIn, noted, image_after, image_after_all}
use Rattle.page_layout.proofs.FlashLemmas.{Leads-append, geometry-Leads}
use Rattle.page_layout.proofs.RecordingLemmas.{cut_then, records_none}
use Rattle.promises.specs.Stop.{CutShort, LeavesOnly, MayLeave, LeftBy, Tears, ErasesDead}
use Rattle.promises.proofs.StopLemmas.{both_dead, image_law, split_stops}

-- nothing was gained
none_noted : (told told' : Option Recording) (these : List Operation) → EndsAt these told told' → EndsAt these (noted [] told) told'
none_noted told told' these ends = subst (λ t. EndsAt these t told') (records_none told) ends

-- nothing was done, and nothing was at hand: a read failed
pub cut_looked : (die : Flash) (told told' : Option Recording) (is_so : Image → Type 0) → EndsAt [] told told' → is_so die.image → CutShort die told told' is_so
cut_looked die told told' is_so ends so = record {
  log = [];
  at_hand = [];
  mid = die;
  leads = refl;
  one = omega arith;
  ends = none_noted told told' [] ends;
  left = λ image may. subst is_so (sym may.by) so;
  dead = tt;
}

-- ONE OPERATION THAT A FAULT ENDED: what was before it, what it may leave torn, and what it leaves where it is done
pub cut_one : (die : Flash) (op : Operation) (told told' : Option Recording) (is_so : Image → Type 0) → EndsIn op told told' → is_so die.image
    → ((image : Image) → IsImage die.geometry image → Tears die.geometry.pages op die.image image → is_so image) → (IsImage die.geometry (image_after die.geometry.pages die.image op) → is_so (image_after die.geometry.pages die.image op))
    → ErasesDead die.geometry.pages die.image (op ∷ []) → CutShort die told told' is_so
cut_one die op told told' is_so (inl none) so torn done dead = cut_looked die told told' is_so none so
cut_one die op told told' is_so (inr at) so torn done dead = record {
  log = [];
  at_hand = op ∷ [];
  mid = die;
  leads = refl;
  one = omega arith;
  ends = none_noted told told' (op ∷ []) at;
  left = λ image may. elim may.by [
    | inl tears ↦ torn image may.whole tears
    | inr last ↦ subst is_so (sym last) (done (subst (λ i. IsImage die.geometry i) last may.whole))
  ];
  dead = dead;
}

-- what is so of all that may be left is of what is more
pub cut_more : (die : Flash) (told told' : Option Recording) (P Q : Image → Type 0) → ((image : Image) → P image → Q image) → CutShort die told told' P → CutShort die told told' Q
cut_more die told told' P Q more c = record { log = c.log; at_hand = c.at_hand; mid = c.mid; leads = c.leads; one = c.one; ends = c.ends; left = λ image may. more image (c.left image may); dead = c.dead }

-- a call that is cut after one that was not
pub cut_join : (a b : Flash) (ra rb rc : Option Recording) (is_so : Image → Type 0) → LeavesOnly a b ra rb is_so → CutShort b rb rc is_so → CutShort a ra rc is_so
cut_join a b ra rb rc is_so x y = record {
  log = x.log ++ y.log;
  at_hand = y.at_hand;
  mid = y.mid;
  leads = Leads-append a b y.mid x.log y.log x.leads y.leads;
  one = y.one;
  ends = cut_then ra rb rc x.log y.log y.at_hand x.records y.ends;
  left = λ image may. elim (split_stops a.geometry.pages a.image image x.log (y.log ++ y.at_hand) (subst (λ l. LeftBy a.geometry.pages a.image l image) (append_assoc x.log y.log y.at_hand) may.by)) [
    | inl first ↦ x.left image (record { whole = may.whole; by = first })
    | inr later ↦
        let same = geometry-Leads a b x.log x.leads in
        y.left image (record {
          whole = subst (λ g. IsImage g image) (sym same) may.whole;
          by = subst (λ i. LeftBy b.geometry.pages i (y.log ++ y.at_hand) image) (sym (image_law a b x.log x.leads))
              (subst (λ (g : Geometry). LeftBy g.pages (image_after_all a.geometry.pages a.image x.log) (y.log ++ y.at_hand) image) (sym same) later);
        })
  ];
  dead = subst (λ l. ErasesDead a.geometry.pages a.image l) (sym (append_assoc x.log y.log y.at_hand))
      (both_dead a.geometry.pages a.image x.log (y.log ++ y.at_hand) x.dead
      (subst (λ i. ErasesDead a.geometry.pages i (y.log ++ y.at_hand)) (image_law a b x.log x.leads)
      (subst (λ (g : Geometry). ErasesDead g.pages b.image (y.log ++ y.at_hand)) (geometry-Leads a b x.log x.leads) y.dead)));
}
