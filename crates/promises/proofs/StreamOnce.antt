-- A stream is requests and a rest in one way.
use Rattle.std.proofs.Common.{◌≡◌, ◌≤◌, ℕ, true, false, List, [], ◌∷◌, ◌++◌, length, take, drop, refl, zero, suc, sym, ap, ◌∙◌, subst, arith, inl}
use Rattle.std.proofs.Common.{inr, length-append, append_assoc, slice_index}
use Rattle.std.specs.Int.{from_le_bytes, to_le_bytes, w32}
use Rattle.std.specs.List.{flat_map, AllByRecursion}
use Rattle.std.proofs.lemmas.List.{take_at, drop_at}
use Rattle.std.proofs.lemmas.Nat.{from_le_bytes-to_le_bytes_4}
use Rattle.promises.specs.Stream.{Request, IsRequest, is_header, request_bytes, body_length, op_code, IsBeginning, IsRest, OneWayLaw}
use Rattle.promises.specs.declared.stream.Op.{Op}
use Rattle.promises.specs.declared.stream.Op.TheVariants.{Read, Write, Trim, Flush, Turn}
use Rattle.promises.specs.declared.stream.End.{End}
use Rattle.promises.specs.declared.stream.End.TheVariants.{Boundary, Unfinished, BadFrame}

abbrev pub op_at : ℕ → Op
op_at zero = Turn
op_at (suc zero) = Read
op_at (suc (suc zero)) = Write
op_at (suc (suc (suc zero))) = Trim
op_at (suc (suc (suc (suc zero)))) = Flush
op_at (suc (suc (suc (suc (suc n))))) = Turn

op_back : (o : Op) → op_at (op_code o) ≡ o
op_back Read = refl
op_back Write = refl
op_back Trim = refl
op_back Flush = refl
op_back Turn = refl

pub op_same : (o p : Op) → op_code o ≡ op_code p → o ≡ p
op_same o p e = sym (op_back o) ∙ ap op_at e ∙ op_back p

header_good : (o : Op) (rest : List ℕ) → is_header (68 ∷ 70 ∷ op_code o ∷ 0 ∷ rest) ≡ true
header_good Read rest = refl
header_good Write rest = refl
header_good Trim rest = refl
header_good Flush rest = refl
header_good Turn rest = refl

request : Op → ℕ → ℕ → List ℕ → Request
request o tag sector body = record { op = o; tag = tag; sector = sector; body = body }

-- the bytes say which request it is
request_same : (data_bytes : ℕ) (f g : Request) (x y : List ℕ) → IsRequest data_bytes f → IsRequest data_bytes g → request_bytes f ++ x ≡ request_bytes g ++ y → (f ≡ g) × (x ≡ y)
unfolding request
request_same data_bytes f g x y wf wg e =
    let op : f.op ≡ g.op = op_same f.op g.op (ap (λ (l : List ℕ). slice_index l 2) e) in
    let tag : f.tag ≡ g.tag = sym (from_le_bytes-to_le_bytes_4 f.tag wf.tag) ∙ ap (λ (l : List ℕ). from_le_bytes w32 (take 4 (drop 4 l))) e ∙ from_le_bytes-to_le_bytes_4 g.tag wg.tag in
    let sector : f.sector ≡ g.sector = sym (from_le_bytes-to_le_bytes_4 f.sector wf.sector) ∙ ap (λ (l : List ℕ). from_le_bytes w32 (take 4 (drop 8 l))) e ∙ from_le_bytes-to_le_bytes_4 g.sector wg.sector in
    let rest : f.body ++ x ≡ g.body ++ y = ap (drop 12) e in
    let long : length g.body ≡ length f.body = wg.body ∙ ap (body_length data_bytes) (sym op) ∙ sym wf.body in
    let body : f.body ≡ g.body = sym (take_at f.body x (length f.body) refl) ∙ ap (take (length f.body)) rest ∙ take_at g.body y (length f.body) long in
    let after : x ≡ y = sym (drop_at f.body x (length f.body) refl) ∙ ap (drop (length f.body)) rest ∙ drop_at g.body y (length f.body) long in (
      ap (λ (o : Op). request o f.tag f.sector f.body) op
          ∙ ap (λ (n : ℕ). request g.op n f.sector f.body) tag
          ∙ ap (λ (m : ℕ). request g.op g.tag m f.body) sector
          ∙ ap (λ (b : List ℕ). request g.op g.tag g.sector b) body,
      after,
    )

-- ---- a rest is no request

not_beginning : (data_bytes : ℕ) (f : Request) (more : List ℕ) → IsRequest data_bytes f → IsBeginning data_bytes (request_bytes f ++ more) → ⊥
not_beginning data_bytes f more w (inl short) = absurd (omega arith)
not_beginning data_bytes f more w (inr (h, short, e)) =
    let op : f.op ≡ h.op = op_same f.op h.op (ap (λ (l : List ℕ). slice_index l 2) e) in
    let rest : f.body ++ more ≡ h.body = ap (drop 12) e in
    let long : body_length data_bytes f.op ≡ body_length data_bytes h.op = ap (body_length data_bytes) op in
    let body : length f.body ≡ body_length data_bytes f.op = w.body in
    absurd (omega (arith, ap length rest, length-append f.body more, short, long, body))

not_rest : (data_bytes : ℕ) (f : Request) (more : List ℕ) (end : End) → IsRequest data_bytes f → IsRest data_bytes end (request_bytes f ++ more) → ⊥
not_rest data_bytes f more Boundary w e = cc
not_rest data_bytes f more Unfinished w h = not_beginning data_bytes f more w h.1
not_rest data_bytes f more BadFrame w h =
    let good : is_header (take 12 (request_bytes f ++ more)) ≡ true = header_good f.op (to_le_bytes w32 f.tag ++ to_le_bytes w32 f.sector) in
    let bad = h.1 in
    cc

-- ---- one rest has one kind

not_bad : (data_bytes : ℕ) (bytes : List ℕ) → IsBeginning data_bytes bytes → 12 ≤ length bytes → is_header (take 12 bytes) ≡ false → ⊥
not_bad data_bytes bytes (inl short) long bad = absurd (omega (arith, short, long))
not_bad data_bytes bytes (inr (h, short, e)) long bad =
    let good : is_header (take 12 (request_bytes h)) ≡ true = header_good h.op (to_le_bytes w32 h.tag ++ to_le_bytes w32 h.sector) in
    let is : is_header (take 12 bytes) ≡ true = ap (λ l. is_header (take 12 l)) e ∙ good in
    cc

same_kind : (data_bytes : ℕ) (bytes : List ℕ) (d e : End) → IsRest data_bytes d bytes → IsRest data_bytes e bytes → d ≡ e
same_kind data_bytes bytes Boundary Boundary h k = refl
same_kind data_bytes bytes Boundary Unfinished h k = absurd (omega (arith, ap length h, k.0))
same_kind data_bytes bytes Boundary BadFrame h k = absurd (omega (arith, ap length h, k.0))
same_kind data_bytes bytes Unfinished Boundary h k = absurd (omega (arith, ap length k, h.0))
same_kind data_bytes bytes Unfinished Unfinished h k = refl
same_kind data_bytes bytes Unfinished BadFrame h k = absurd (not_bad data_bytes bytes h.1 k.0 k.1)
same_kind data_bytes bytes BadFrame Boundary h k = absurd (omega (arith, ap length k, h.0))
same_kind data_bytes bytes BadFrame Unfinished h k = absurd (not_bad data_bytes bytes k.1 h.0 h.1)
same_kind data_bytes bytes BadFrame BadFrame h k = refl

-- ---- whole streams

same_split : (data_bytes : ℕ) (fs gs : List Request) (d e : End) (t u : List ℕ) → AllByRecursion (IsRequest data_bytes) fs → AllByRecursion (IsRequest data_bytes) gs → IsRest data_bytes d t → IsRest data_bytes e u
    → flat_map request_bytes fs ++ t ≡ flat_map request_bytes gs ++ u → (fs ≡ gs) × (t ≡ u)
same_split data_bytes [] [] d e t u af ag rt ru eq = (refl, eq)
same_split data_bytes [] (g ∷ gs) d e t u af ag rt ru eq =
    absurd (not_rest data_bytes g (flat_map request_bytes gs ++ u) d ag.0 (subst (IsRest data_bytes d) (eq ∙ append_assoc (request_bytes g) (flat_map request_bytes gs) u) rt))
same_split data_bytes (f ∷ fs) [] d e t u af ag rt ru eq =
    absurd (not_rest data_bytes f (flat_map request_bytes fs ++ t) e af.0 (subst (IsRest data_bytes e) (sym eq ∙ append_assoc (request_bytes f) (flat_map request_bytes fs) t) ru))
same_split data_bytes (f ∷ fs) (g ∷ gs) d e t u af ag rt ru eq =
    let regrouped = sym (append_assoc (request_bytes f) (flat_map request_bytes fs) t) ∙ eq ∙ append_assoc (request_bytes g) (flat_map request_bytes gs) u in
    let same = request_same data_bytes f g (flat_map request_bytes fs ++ t) (flat_map request_bytes gs ++ u) af.0 ag.0 regrouped in
    let later = same_split data_bytes fs gs d e t u af.1 ag.1 rt ru same.1 in
    (ap (λ (k : Request). k ∷ fs) same.0 ∙ ap (λ (l : List Request). g ∷ l) later.0, later.1)

pub one_way : OneWayLaw
one_way data_bytes stream fs gs d e t u p q =
    let same = same_split data_bytes fs gs d e t u p.each q.each p.ends q.ends (sym p.whole ∙ q.whole) in
    (same.0, same_kind data_bytes u d e (subst (IsRest data_bytes d) same.1 p.ends) q.ends, same.1)
