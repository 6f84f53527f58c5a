-- A transmission is requests and a rest in one way.
use Rattle.std.proofs.Common.{◌≡◌, ◌≤◌, ◌<◌, ◌==◌, ◌^◌, ℕ, true, false, List, [], ◌∷◌, ◌++◌, length, take, drop, refl, sym, ap, ◌∙◌, subst, arith, inl}
use Rattle.std.proofs.Common.{inr, length-append, append_assoc, append-nil, slice_index, rules, ◌&&◌}
use Rattle.std.specs.Int.{from_be_bytes, to_be_bytes, w16, w32, w64}
use Rattle.std.specs.List.{flat_map, AllByRecursion}
use Rattle.std.proofs.lemmas.List.{take_at, drop_at}
use Rattle.std.proofs.lemmas.Nat.{from_be_bytes-to_be_bytes_2, from_be_bytes-to_be_bytes_4, from_be_bytes-to_be_bytes_8}
use Rattle.nbd_stream.specs.Frames.{NbdRequest, IsHeader, IsNbdRequest, begins_with_magic, is_end, nbd_request_bytes, counted_body_length, IsNbdRequestBeginning, IsTransmissionRest, TransmissionOneWayLaw}
use Rattle.nbd_stream.specs.declared.request.StreamEnd.{StreamEnd}
use Rattle.nbd_stream.specs.declared.request.StreamEnd.TheVariants.{Boundary, Unfinished, BadFrame, Disconnected}

request : ℕ → ℕ → ℕ → ℕ → ℕ → List ℕ → NbdRequest
request flags code cookie offset count body = record { flags = flags; code = code; cookie = cookie; offset = offset; count = count; body = body }

abbrev code_in : List ℕ → ℕ
code_in l = from_be_bytes w16 (take 2 (drop 6 l))

abbrev count_in : List ℕ → ℕ
count_in l = from_be_bytes w32 (take 4 (drop 24 l))

-- the header's bytes say what its command and its count are
code_same : (f g : NbdRequest) (x y : List ℕ) → f.code < 2 ^ 16 → g.code < 2 ^ 16 → nbd_request_bytes f ++ x ≡ nbd_request_bytes g ++ y → f.code ≡ g.code
code_same f g x y wf wg e = sym (from_be_bytes-to_be_bytes_2 f.code wf) ∙ ap code_in e ∙ from_be_bytes-to_be_bytes_2 g.code wg

count_same : (f g : NbdRequest) (x y : List ℕ) → f.count < 2 ^ 32 → g.count < 2 ^ 32 → nbd_request_bytes f ++ x ≡ nbd_request_bytes g ++ y → f.count ≡ g.count
count_same f g x y wf wg e = sym (from_be_bytes-to_be_bytes_4 f.count wf) ∙ ap count_in e ∙ from_be_bytes-to_be_bytes_4 g.count wg

body_same : (f g : NbdRequest) (x y : List ℕ) → IsHeader f → IsHeader g → nbd_request_bytes f ++ x ≡ nbd_request_bytes g ++ y → counted_body_length f.code f.count ≡ counted_body_length g.code g.count
body_same f g x y wf wg e =
    ap (λ n. counted_body_length n f.count) (code_same f g x y wf.code wg.code e) ∙ ap (counted_body_length g.code) (count_same f g x y wf.count wg.count e)

-- the bytes say which request it is
request_same : (f g : NbdRequest) (x y : List ℕ) → IsNbdRequest f → IsNbdRequest g → nbd_request_bytes f ++ x ≡ nbd_request_bytes g ++ y → (f ≡ g) × (x ≡ y)
unfolding request
request_same f g x y wf wg e =
    let flags : f.flags ≡ g.flags = sym (from_be_bytes-to_be_bytes_2 f.flags wf.header.flags) ∙ ap (λ (l : List ℕ). from_be_bytes w16 (take 2 (drop 4 l))) e ∙ from_be_bytes-to_be_bytes_2 g.flags wg.header.flags in
    let code : f.code ≡ g.code = code_same f g x y wf.header.code wg.header.code e in
    let cookie : f.cookie ≡ g.cookie = sym (from_be_bytes-to_be_bytes_8 f.cookie wf.header.cookie) ∙ ap (λ (l : List ℕ). from_be_bytes w64 (take 8 (drop 8 l))) e ∙ from_be_bytes-to_be_bytes_8 g.cookie wg.header.cookie in
    let offset : f.offset ≡ g.offset = sym (from_be_bytes-to_be_bytes_8 f.offset wf.header.offset) ∙ ap (λ (l : List ℕ). from_be_bytes w64 (take 8 (drop 16 l))) e ∙ from_be_bytes-to_be_bytes_8 g.offset wg.header.offset in
    let count : f.count ≡ g.count = count_same f g x y wf.header.count wg.header.count e in
    let rest : f.body ++ x ≡ g.body ++ y = ap (drop 28) e in
    let long : length g.body ≡ length f.body = wg.body ∙ sym (body_same f g x y wf.header wg.header e) ∙ sym wf.body in
    let body : f.body ≡ g.body = sym (take_at f.body x (length f.body) refl) ∙ ap (take (length f.body)) rest ∙ take_at g.body y (length f.body) long in
    let after : x ≡ y = sym (drop_at f.body x (length f.body) refl) ∙ ap (drop (length f.body)) rest ∙ drop_at g.body y (length f.body) long in (
      ap (λ (n : ℕ). request n f.code f.cookie f.offset f.count f.body) flags
          ∙ ap (λ (n : ℕ). request g.flags n f.cookie f.offset f.count f.body) code
          ∙ ap (λ (n : ℕ). request g.flags g.code n f.offset f.count f.body) cookie
          ∙ ap (λ (n : ℕ). request g.flags g.code g.cookie n f.count f.body) offset
          ∙ ap (λ (n : ℕ). request g.flags g.code g.cookie g.offset n f.body) count
          ∙ ap (λ (b : List ℕ). request g.flags g.code g.cookie g.offset g.count b) body,
      after,
    )

-- ---- a rest is no request

-- bytes six and seven are those of a command, and 0 and 2 only of the one that ends a transmission
end_cells : (a b : ℕ) → (a == 0 && b == 2) ≡ true → (a ≡ 0) × (b ≡ 2)
end_cells a b e = search rules

end_code : (r : NbdRequest) (more : List ℕ) → IsHeader r → is_end (take 28 (nbd_request_bytes r ++ more)) ≡ true → ⊥
end_code r more w ends =
    let front : List ℕ = take 28 (nbd_request_bytes r ++ more) in
    let cells = end_cells (slice_index front 6) (slice_index front 7) ends in
    let pair : to_be_bytes w16 r.code ≡ (0 ∷ 2 ∷ []) = ap (λ (a : ℕ). a ∷ slice_index front 7 ∷ []) cells.0 ∙ ap (λ (b : ℕ). 0 ∷ b ∷ []) cells.1 in
    let two : r.code ≡ 2 = sym (from_be_bytes-to_be_bytes_2 r.code w.code) ∙ ap (from_be_bytes w16) pair in
    let not : (r.code == 2) ≡ false = w.goes_on in
    let yes : (r.code == 2) ≡ true = ap (λ (n : ℕ). n == 2) two in
    cc

not_beginning : (f : NbdRequest) (more : List ℕ) → IsNbdRequest f → IsNbdRequestBeginning (nbd_request_bytes f ++ more) → ⊥
not_beginning f more w (inl short) = absurd (omega arith)
not_beginning f more w (inr (h, wh, short, e)) =
    let e' : nbd_request_bytes f ++ more ≡ nbd_request_bytes h ++ [] = e ∙ sym (append-nil (nbd_request_bytes h)) in
    let rest : f.body ++ more ≡ h.body = ap (drop 28) e in
    let long : counted_body_length f.code f.count ≡ counted_body_length h.code h.count = body_same f h more [] w.header wh e' in
    let body : length f.body ≡ counted_body_length f.code f.count = w.body in
    absurd (omega (arith, ap length rest, length-append f.body more, short, long, body))

not_rest : (f : NbdRequest) (more : List ℕ) (end : StreamEnd) → IsNbdRequest f → IsTransmissionRest end (nbd_request_bytes f ++ more) → ⊥
not_rest f more Boundary w e = cc
not_rest f more Unfinished w h = not_beginning f more w h.1
not_rest f more BadFrame w h =
    let good : begins_with_magic (take 28 (nbd_request_bytes f ++ more)) ≡ true = refl in
    let bad = h.1 in
    cc
not_rest f more Disconnected w h = end_code f more w.header h.2

-- ---- one rest has one kind

-- the beginning of a request is no header with another magic, and none that ends the transmission
not_bad : (bytes : List ℕ) → IsNbdRequestBeginning bytes → 28 ≤ length bytes → begins_with_magic (take 28 bytes) ≡ false → ⊥
not_bad bytes (inl short) long bad = absurd (omega (arith, short, long))
not_bad bytes (inr (h, wh, short, e)) long bad =
    let is : begins_with_magic (take 28 bytes) ≡ true = ap (λ l. begins_with_magic (take 28 l)) e in
    cc

not_end : (bytes : List ℕ) → IsNbdRequestBeginning bytes → 28 ≤ length bytes → is_end (take 28 bytes) ≡ true → ⊥
not_end bytes (inl short) long ends = absurd (omega (arith, short, long))
not_end bytes (inr (h, wh, short, e)) long ends =
    end_code h [] wh (ap (λ l. is_end (take 28 l)) (append-nil (nbd_request_bytes h) ∙ sym e) ∙ ends)

same_kind : (bytes : List ℕ) (d e : StreamEnd) → IsTransmissionRest d bytes → IsTransmissionRest e bytes → d ≡ e
same_kind bytes Boundary Boundary h k = refl
same_kind bytes Boundary Unfinished h k = absurd (omega (arith, ap length h, k.0))
same_kind bytes Boundary BadFrame h k = absurd (omega (arith, ap length h, k.0))
same_kind bytes Boundary Disconnected h k = absurd (omega (arith, ap length h, k.0))
same_kind bytes Unfinished Boundary h k = absurd (omega (arith, ap length k, h.0))
same_kind bytes Unfinished Unfinished h k = refl
same_kind bytes Unfinished BadFrame h k = absurd (not_bad bytes h.1 k.0 k.1)
same_kind bytes Unfinished Disconnected h k = absurd (not_end bytes h.1 k.0 k.2)
same_kind bytes BadFrame Boundary h k = absurd (omega (arith, ap length k, h.0))
same_kind bytes BadFrame Unfinished h k = absurd (not_bad bytes k.1 h.0 h.1)
same_kind bytes BadFrame BadFrame h k = refl
same_kind bytes BadFrame Disconnected h k = let bad = h.1 in let good = k.1 in (let no : ⊥ = cc in absurd no)
same_kind bytes Disconnected Boundary h k = absurd (omega (arith, ap length k, h.0))
same_kind bytes Disconnected Unfinished h k = absurd (not_end bytes k.1 h.0 h.2)
same_kind bytes Disconnected BadFrame h k = let bad = k.1 in let good = h.1 in (let no : ⊥ = cc in absurd no)
same_kind bytes Disconnected Disconnected h k = refl

-- ---- whole streams

same_split : (fs gs : List NbdRequest) (d e : StreamEnd) (t u : List ℕ) → AllByRecursion IsNbdRequest fs → AllByRecursion IsNbdRequest gs → IsTransmissionRest d t → IsTransmissionRest e u
    → flat_map nbd_request_bytes fs ++ t ≡ flat_map nbd_request_bytes gs ++ u → (fs ≡ gs) × (t ≡ u)
same_split [] [] d e t u af ag rt ru eq = (refl, eq)
same_split [] (g ∷ gs) d e t u af ag rt ru eq =
    absurd (not_rest g (flat_map nbd_request_bytes gs ++ u) d ag.0 (subst (IsTransmissionRest d) (eq ∙ append_assoc (nbd_request_bytes g) (flat_map nbd_request_bytes gs) u) rt))
same_split (f ∷ fs) [] d e t u af ag rt ru eq =
    absurd (not_rest f (flat_map nbd_request_bytes fs ++ t) e af.0 (subst (IsTransmissionRest e) (sym eq ∙ append_assoc (nbd_request_bytes f) (flat_map nbd_request_bytes fs) t) ru))
same_split (f ∷ fs) (g ∷ gs) d e t u af ag rt ru eq =
    let regrouped = sym (append_assoc (nbd_request_bytes f) (flat_map nbd_request_bytes fs) t) ∙ eq ∙ append_assoc (nbd_request_bytes g) (flat_map nbd_request_bytes gs) u in
    let same = request_same f g (flat_map nbd_request_bytes fs ++ t) (flat_map nbd_request_bytes gs ++ u) af.0 ag.0 regrouped in
    let later = same_split fs gs d e t u af.1 ag.1 rt ru same.1 in
    (ap (λ (k : NbdRequest). k ∷ fs) same.0 ∙ ap (λ (l : List NbdRequest). g ∷ l) later.0, later.1)

pub one_way : TransmissionOneWayLaw
one_way stream fs gs d e t u p q =
    let same = same_split fs gs d e t u p.each q.each p.ends q.ends (sym p.whole ∙ q.whole) in
    (same.0, same_kind u d e (subst (IsTransmissionRest d) same.1 p.ends) q.ends, same.1)
