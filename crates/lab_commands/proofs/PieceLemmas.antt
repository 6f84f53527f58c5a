-- Pieces of a text and parts of a document, one after another.
use Rattle.std.proofs.Common.{◌≡◌, ◌+◌, ◌<◌, ℕ, zero, suc, List, [], ◌∷◌, ◌++◌, length, take, drop, get_or, Option, refl, sym, ap, subst, ◌∙◌, append_assoc, append-nil, arith}
use Rattle.std.proofs.Math.Seq.{take-suc}
use Rattle.std.specs.Io.KnownBytes.{Appends}
use Rattle.std.proofs.KnownBytes.{Appends-trans}
use Rattle.std.specs.Prelude.{Bool, true, false, ◌==◌, if◌then◌else◌, codes}
use Rattle.std.specs.Fmt.{decimal}
use Rattle.lab_dump.specs.declared.fit.Fit.{Fit}
use Rattle.lab_dump.specs.declared.doubts.Doubts.{Doubts}
use Rattle.lab_correct.specs.declared.found.FoundFit.{FoundFit}
use Rattle.lab_dump.specs.Doubts.{most_older}
use Rattle.lab_commands.specs.Lines.{age_words, counted_words, first_words, fit_words, found_words, moved_words, says_words, five_numbers_words, whole_words}
use Rattle.lab_commands.specs.declared.output.OutputFault.{OutputFault}
use Rattle.lab_commands.specs.Document.{StopsPrinting}
use Rattle.lab_commands.specs.Pieces.{joined}
use Rattle.lab_commands.proofs.PrintLemmas.{stops_after, stops_more}

joined_cons : {A : Type 0} (f : A → List ℕ) (p : A) (rest : List A) → joined f (p ∷ rest) ≡ f p ++ joined f rest
joined_cons f p [] = sym (append-nil (f p))
joined_cons f p (q ∷ rest) = refl

joined_both : {A : Type 0} (f : A → List ℕ) (xs ys : List A) → joined f (xs ++ ys) ≡ joined f xs ++ joined f ys
joined_both f [] ys = refl
joined_both f (p ∷ rest) ys =
    joined_cons f p (rest ++ ys) ∙ (ap (λ t. f p ++ t) (joined_both f rest ys) ∙ (sym (append_assoc (f p) (joined f rest) (joined f ys)) ∙ ap (λ t. t ++ joined f ys) (sym (joined_cons f p rest))))

-- one more
next_joined : {A : Type 0} (f : A → List ℕ) (ps : List A) (n : ℕ) (d : A) → n < length ps → joined f (take (n + 1) ps) ≡ joined f (take n ps) ++ f (get_or ps n d)
next_joined f ps n d l =
    let next : n + 1 ≡ suc n = omega arith in
    ap (λ m. joined f (take m ps)) next ∙ (ap (joined f) (take-suc ps n d l) ∙ joined_both f (take n ps) (get_or ps n d ∷ []))

pub one_put : {A : Type 0} (f : A → List ℕ) (ps : List A) (n : ℕ) (d : A) (a b e : Option (List ℕ)) → n < length ps → Appends a b (joined f (take n ps)) → Appends b e (f (get_or ps n d)) → Appends a e (joined f (take (n + 1) ps))
one_put f ps n d a b e l first last = subst (λ t. Appends a e t) (sym (next_joined f ps n d l)) (Appends-trans a b e (joined f (take n ps)) (f (get_or ps n d)) first last)

whole : {A : Type 0} (f : A → List ℕ) (ps : List A) (n : ℕ) → joined f ps ≡ joined f (take n ps) ++ joined f (drop n ps)
whole f ps n = ap (joined f) (sym (Rattle.std.proofs.Common.take-append-drop n ps)) ∙ joined_both f (take n ps) (drop n ps)

-- where it stopped in one of them, behind those before it
pub stopped_put : {A : Type 0} (f : A → List ℕ) (o : OutputFault) (broke : Bool) (ps : List A) (n : ℕ) (d : A) (a b e : Option (List ℕ)) → n < length ps → Appends a b (joined f (take n ps)) → StopsPrinting o broke b e (f (get_or ps n d)) → StopsPrinting o broke a e (joined f ps)
stopped_put f o broke ps n d a b e l first last =
    let front = stops_after o broke a b e (joined f (take n ps)) (f (get_or ps n d)) first last in
    subst (λ t. StopsPrinting o broke a e t) (sym (whole f ps (n + 1)))
    (stops_more o broke a e (joined f (take (n + 1) ps)) (joined f (drop (n + 1) ps)) (subst (λ t. StopsPrinting o broke a e t) (sym (next_joined f ps n d l)) front))

-- ---- lines that are told of in parts

-- the five numbers of a geometry, between other words
shaped_flat : (f : Fit) (before behind : List ℕ)
    → before ++ (decimal f.data_bytes ++ (codes "," ++ (decimal f.spare_bytes ++ (codes "," ++ (decimal f.pages ++ (codes "," ++ (decimal f.blocks ++ (codes "," ++ (decimal f.sectors ++ behind))))))))) ≡ before ++ (five_numbers_words f ++ behind)
shaped_flat f before behind = simp append_assoc

pub shaped_pieces : (f : Fit) (before behind : List ℕ) (r1 r2 r3 r4 r5 : ℕ) → r1 ≡ f.data_bytes → r2 ≡ f.spare_bytes → r3 ≡ f.pages → r4 ≡ f.blocks → r5 ≡ f.sectors
    → before ++ (decimal r1 ++ (codes "," ++ (decimal r2 ++ (codes "," ++ (decimal r3 ++ (codes "," ++ (decimal r4 ++ (codes "," ++ (decimal r5 ++ behind))))))))) ≡ before ++ (five_numbers_words f ++ behind)
shaped_pieces f before behind r1 r2 r3 r4 r5 e1 e2 e3 e4 e5 = rw (e1, e2, e3, e4, e5) (shaped_flat f before behind)

-- a geometry that fits, in two parts
pub fit_parts : (f : Fit) → (codes "geometry " ++ (five_numbers_words f ++ codes " looked ")) ++ counted_words f ≡ fit_words f
fit_parts f = simp append_assoc

pub counted_pieces : (f : Fit) (r1 r2 r3 : ℕ) (w : List ℕ) → r1 ≡ f.looked → r2 ≡ f.sound.0 → r3 ≡ f.unsound → w ≡ says_words f.table
    → decimal r1 ++ (codes " sound " ++ (decimal r2 ++ (codes " unsound " ++ (decimal r3 ++ (codes " table " ++ (w ++ (codes " blocks " ++ (decimal f.blocks_told ++ (codes " sectors " ++ decimal f.sectors_told))))))))) ≡ counted_words f
counted_pieces f r1 r2 r3 w e1 e2 e3 ew = rw (e1, e2, e3, ew) refl

-- a geometry with codes is told in both parts
pub coded_found : (found : FoundFit) → found.coded ≡ true → fit_words found.fit ++ first_words found.fit ≡ found_words found
coded_found found is = sym (ap (λ b. if b then fit_words found.fit ++ first_words found.fit else fit_words found.fit) is)

nonzero : (m : ℕ) → ¬ (m ≡ 0) → (m == 0) ≡ false
nonzero zero h = absurd (h refl)
nonzero (suc n) h = grind arith

-- what is claimed of an array, where no sector may be older
age_whole_by : (d : Doubts) (b : Bool) → b ≡ true → codes "unsound " ++ (decimal d.unsound ++ (whole_words d.outside ++ (codes ", if no page was lost behind the last one of its block" ++ moved_words d.rewritten)))
    ≡ codes "unsound "
    ++ (decimal d.unsound
    ++ ((if b then whole_words d.outside else
    (codes ": at most " ++ (decimal (most_older d) ++ codes " sectors may be older than the last write")))
    ++ (codes ", if no page was lost behind the last one of its block" ++ moved_words d.rewritten)))
age_whole_by d true is = refl
age_whole_by d false is = absurd cc

pub age_whole : (d : Doubts) (u m : ℕ) (w v : List ℕ) → u ≡ d.unsound → m ≡ most_older d → m ≡ 0 → w ≡ whole_words d.outside → v ≡ moved_words d.rewritten
    → codes "unsound " ++ (decimal u ++ (w ++ (codes ", if no page was lost behind the last one of its block" ++ v))) ≡ age_words d
age_whole d u m w v eu em is ew ev = rw (eu, ew, ev) (age_whole_by d (most_older d == 0) (ap (λ k. k == 0) (sym em ∙ is)))

-- and where some may
age_older_by : (d : Doubts) (b : Bool) → b ≡ false
    → codes "unsound " ++ (decimal d.unsound ++ (codes ": at most " ++ (decimal (most_older d) ++ (codes " sectors may be older than the last write" ++ (codes ", if no page was lost behind the last one of its block" ++ moved_words d.rewritten)))))
    ≡ codes "unsound "
    ++ (decimal d.unsound
    ++ ((if b then whole_words d.outside else
    (codes ": at most " ++ (decimal (most_older d) ++ codes " sectors may be older than the last write")))
    ++ (codes ", if no page was lost behind the last one of its block" ++ moved_words d.rewritten)))
age_older_by d true is = absurd cc
age_older_by d false is =
    ap (λ t. codes "unsound " ++ (decimal d.unsound ++ (codes ": at most " ++ t)))
    (sym (append_assoc (decimal (most_older d)) (codes " sectors may be older than the last write") (codes ", if no page was lost behind the last one of its block" ++ moved_words d.rewritten)))

pub age_older : (d : Doubts) (u m : ℕ) (v : List ℕ) → u ≡ d.unsound → m ≡ most_older d → ¬ (m ≡ 0) → v ≡ moved_words d.rewritten
    → codes "unsound " ++ (decimal u ++ (codes ": at most " ++ (decimal m ++ (codes " sectors may be older than the last write" ++ (codes ", if no page was lost behind the last one of its block" ++ v))))) ≡ age_words d
age_older d u m v eu em is ev = rw (eu, em, ev) (age_older_by d (most_older d == 0) (ap (λ k. k == 0) (sym em) ∙ nonzero m is))
