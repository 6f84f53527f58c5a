-- Images that a stop may leave.
use Rattle.std.proofs.Common.{◌≡◌, ◌⊎◌, inl, inr, ℕ, Bool, List, [], ◌∷◌, ◌++◌, refl, sym, ◌∙◌, ap, subst, Option, Some, None}
use Rattle.page_layout.specs.declared.geometry.Geometry.{Geometry}
use Rattle.page_layout.specs.Page.{Image, IsImage, Page}
use Rattle.page_layout.proofs.FlashLemmas.{Leads-append, geometry-Leads}
use Rattle.page_layout.proofs.RecordingLemmas.{records_join, records_none}
use Rattle.page_layout.specs.Flash.{Flash, Operation, Program, Erase, Steps, Leads, after}
use Rattle.page_layout.specs.Recording.{Recording, Records, image_after, image_after_all}
use Rattle.promises.specs.Stop.{Tears, LeftBy, StopsIn, LeavesOnly, ErasesDead, NoOperationLaw, TornInOneLaw, BetweenLaw, StopsJoinLaw, ImageLaw, DeadEraseLaw, DeadJoinLaw, LiveEraseLaw}
use Rattle.promises.proofs.LogLemmas.{after_all, leads_after, after-geometry}

-- nothing was torn yet
untorn : (pages : ℕ) (op : Operation) (image : Image) → Tears pages op image image
untorn pages (Program row page passed left) image = inl refl
untorn pages (Erase block passed left) image = record { length_same = refl; others = λ row ne. refl; inside = λ row is. inl refl }

stopped_first : (pages : ℕ) (image : Image) (log : List Operation) → LeftBy pages image log image
stopped_first pages image [] = refl
stopped_first pages image (op ∷ log) = inl (untorn pages op image)

pub between : BetweenLaw
between pages image [] rest = stopped_first pages image rest
between pages image (op ∷ before) rest = inr (between pages (image_after pages image op) before rest)

pub no_operation : NoOperationLaw
no_operation g image left h = h.by

torn_in_one : (pages : ℕ) (image left : Image) (log : List Operation) → LeftBy pages image log left → (left ≡ image_after_all pages image log) ⊎ StopsIn pages image log left
torn_in_one pages image left [] h = inl h
torn_in_one pages image left (op ∷ log) (inl t) = inr (record { before = []; op = op; after = log; cut = refl; tears = t })
torn_in_one pages image left (op ∷ log) (inr r) =
    elim (torn_in_one pages (image_after pages image op) left log r) [
      | inl e ↦ inl e
      | inr s ↦ inr (record { before = op ∷ s.before; op = s.op; after = s.after; cut = ap (λ l. op ∷ l) s.cut; tears = s.tears })
    ]

stops_at : (pages : ℕ) (image left : Image) (before : List Operation) (op : Operation) (rest : List Operation) → Tears pages op (image_after_all pages image before) left → LeftBy pages image (before ++ op ∷ rest) left
stops_at pages image left [] op rest t = inl t
stops_at pages image left (x ∷ before) op rest t = inr (stops_at pages (image_after pages image x) left before op rest t)

stops_last : (pages : ℕ) (image left : Image) (log : List Operation) → left ≡ image_after_all pages image log → LeftBy pages image log left
stops_last pages image left [] e = e
stops_last pages image left (op ∷ log) e = inr (stops_last pages (image_after pages image op) left log e)

left_so : (pages : ℕ) (image left : Image) (log : List Operation) → (left ≡ image_after_all pages image log) ⊎ StopsIn pages image log left → LeftBy pages image log left
left_so pages image left log (inl e) = stops_last pages image left log e
left_so pages image left log (inr s) = subst (λ l. LeftBy pages image l left) (sym s.cut) (stops_at pages image left s.before s.op s.after s.tears)

pub torn_in_one_law : TornInOneLaw
torn_in_one_law pages image left log = (torn_in_one pages image left log, left_so pages image left log)

pub split_stops : (pages : ℕ) (image left : Image) (xs ys : List Operation) → LeftBy pages image (xs ++ ys) left → LeftBy pages image xs left ⊎ LeftBy pages (image_after_all pages image xs) ys left
split_stops pages image left [] ys h = inr h
split_stops pages image left (op ∷ xs) ys (inl t) = inl (inl t)
split_stops pages image left (op ∷ xs) ys (inr r) =
    elim (split_stops pages (image_after pages image op) left xs ys r) [
      | inl s ↦ inl (inr s)
      | inr s ↦ inr s
    ]

first_stops : (pages : ℕ) (image left : Image) (xs ys : List Operation) → LeftBy pages image xs left → LeftBy pages image (xs ++ ys) left
first_stops pages image left [] ys h = subst (λ x. LeftBy pages image ys x) (sym h) (stopped_first pages image ys)
first_stops pages image left (op ∷ xs) ys (inl t) = inl t
first_stops pages image left (op ∷ xs) ys (inr r) = inr (first_stops pages (image_after pages image op) left xs ys r)

later_stops : (pages : ℕ) (image left : Image) (xs ys : List Operation) → LeftBy pages (image_after_all pages image xs) ys left → LeftBy pages image (xs ++ ys) left
later_stops pages image left [] ys h = h
later_stops pages image left (op ∷ xs) ys h = inr (later_stops pages (image_after pages image op) left xs ys h)

both_stops : (pages : ℕ) (image left : Image) (xs ys : List Operation) → LeftBy pages image xs left ⊎ LeftBy pages (image_after_all pages image xs) ys left → LeftBy pages image (xs ++ ys) left
both_stops pages image left xs ys (inl h) = first_stops pages image left xs ys h
both_stops pages image left xs ys (inr h) = later_stops pages image left xs ys h

pub stops_join : StopsJoinLaw
stops_join pages image left xs ys = (split_stops pages image left xs ys, both_stops pages image left xs ys)

-- ---- the die's image

after-image : (s : Flash) (op : Operation) → (after s op).image ≡ image_after s.geometry.pages s.image op
unfolding after image_after
after-image s (Program row page passed left) = refl
after-image s (Erase block passed left) = refl

all-image : (s : Flash) (log : List Operation) (pages : ℕ) → s.geometry.pages ≡ pages → (after_all s log).image ≡ image_after_all pages s.image log
unfolding after_all
all-image s [] pages same = refl
all-image s (op ∷ log) pages same =
    let now : (after s op).image ≡ image_after pages s.image op = after-image s op ∙ ap (λ p. image_after p s.image op) same in
    all-image (after s op) log pages (ap (λ g. g.pages) (after-geometry s op) ∙ same) ∙ ap (λ i. image_after_all pages i log) now

pub image_law : ImageLaw
image_law old new log h = ap (λ (s : Flash). s.image) (leads_after old new log h) ∙ all-image old log old.geometry.pages refl

-- ---- which blocks are erased

split_dead : (pages : ℕ) (image : Image) (xs ys : List Operation) → ErasesDead pages image (xs ++ ys) → ErasesDead pages image xs × ErasesDead pages (image_after_all pages image xs) ys
split_dead pages image [] ys d = (tt, d)
split_dead pages image (Program row page passed left ∷ xs) ys d = split_dead pages (image_after pages image (Program row page passed left)) xs ys d
split_dead pages image (Erase block passed left ∷ xs) ys d =
    let both = split_dead pages (image_after pages image (Erase block passed left)) xs ys d.1 in
    ((d.0, both.0), both.1)

pub both_dead : (pages : ℕ) (image : Image) (xs ys : List Operation) → ErasesDead pages image xs → ErasesDead pages (image_after_all pages image xs) ys → ErasesDead pages image (xs ++ ys)
both_dead pages image [] ys first second = second
both_dead pages image (Program row page passed left ∷ xs) ys first second = both_dead pages (image_after pages image (Program row page passed left)) xs ys first second
both_dead pages image (Erase block passed left ∷ xs) ys first second = (first.0, both_dead pages (image_after pages image (Erase block passed left)) xs ys first.1 second)

pub dead_join : DeadJoinLaw
dead_join pages image xs ys = (split_dead pages image xs ys, λ d. both_dead pages image xs ys d.0 d.1)

pub dead_erase : DeadEraseLaw
dead_erase pages image before after block passed left d = (split_dead pages image before (Erase block passed left ∷ after) d).1.0

pub live_erase : LiveEraseLaw
live_erase pages image before after block row key passed left live here d = (dead_erase pages image before after block passed left d).none key row live here

-- ---- calls and their stops

-- a call that does nothing
pub leaves_nothing : (die : Flash) (told : Option Recording) (is_so : Image → Type 0) → is_so die.image → LeavesOnly die die told told is_so
leaves_nothing die told is_so so = record {
  log = [];
  leads = refl;
  records = records_none told;
  left = λ image may. subst is_so (sym may.by) so;
  dead = tt;
}

image_one : (old new : Flash) (op : Operation) → Steps old op new → new.image ≡ image_after old.geometry.pages old.image op
image_one old new op steps = ap (λ (s : Flash). s.image) steps.left ∙ after-image old op

-- one operation: what was before it, what it may leave torn, and what it left; an erase is of a block without a newest page
pub leaves_one : (old new : Flash) (op : Operation) (told told' : Option Recording) (is_so : Image → Type 0) → Steps old op new → Records told (op ∷ []) told'
    → ((image : Image) → IsImage old.geometry image → Tears old.geometry.pages op old.image image → is_so image) → is_so new.image → ErasesDead old.geometry.pages old.image (op ∷ []) → LeavesOnly old new told told' is_so
leaves_one old new op told told' is_so steps records torn so dead = record {
  log = op ∷ [];
  leads = (new, steps, refl);
  records = records;
  left = λ image may. elim may.by [
    | inl tears ↦ torn image may.whole tears
    | inr last ↦ subst is_so (image_one old new op steps ∙ sym last) so
  ];
  dead = dead;
}

same_geometry : (a b : Flash) (log : List Operation) → Leads a log b → b.geometry ≡ a.geometry
same_geometry a b log h = geometry-Leads a b log h

-- one call after another
pub leaves_join : (a b c : Flash) (ra rb rc : Option Recording) (is_so : Image → Type 0) → LeavesOnly a b ra rb is_so → LeavesOnly b c rb rc is_so → LeavesOnly a c ra rc is_so
leaves_join a b c ra rb rc is_so x y = record {
  log = x.log ++ y.log;
  leads = Leads-append a b c x.log y.log x.leads y.leads;
  records = records_join ra rb rc x.log y.log x.records y.records;
  left = λ image may. elim (split_stops a.geometry.pages a.image image x.log y.log may.by) [
    | inl first ↦ x.left image (record { whole = may.whole; by = first })
    | inr later ↦
        let same = same_geometry a b x.log x.leads in
        y.left image (record {
          whole = subst (λ g. IsImage g image) (sym same) may.whole;
          by = subst (λ i. LeftBy b.geometry.pages i y.log image) (sym (image_law a b x.log x.leads)) (subst (λ (g : Geometry). LeftBy g.pages (image_after_all a.geometry.pages a.image x.log) y.log image) (sym same) later);
        })
  ];
  dead = both_dead a.geometry.pages a.image x.log y.log x.dead
      (subst (λ i. ErasesDead a.geometry.pages i y.log) (image_law a b x.log x.leads) (subst (λ (g : Geometry). ErasesDead g.pages b.image y.log) (same_geometry a b x.log x.leads) y.dead));
}
