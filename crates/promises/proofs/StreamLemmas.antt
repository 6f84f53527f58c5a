-- Replies, and the codes of what requests ask for.
use Rattle.std.proofs.Common.{◌≡◌, ◌⊎◌, inl, inr, ℕ, [], ◌∷◌, ◌++◌, refl, sym, ◌∙◌, ap, arith, append_assoc, lit<, lit≤}
use Rattle.std.specs.Prelude.{Some, None}
use Rattle.std.proofs.lemmas.Bool.Decides.{eqb_tells}
use Rattle.promises.specs.Stream.{Request, op_code, op_from, reply_bytes, replies_bytes, RepliesJoinLaw, OpLaw, CutShortLaw, CutShortOutLaw}
use Rattle.promises.specs.Stream.{BadHeaderLaw, ElevenLaw}
use Rattle.promises.specs.declared.stream.Op.{Op}
use Rattle.promises.specs.declared.stream.Op.TheVariants.{Read, Write, Trim, Flush, Turn}

pub replies_join : RepliesJoinLaw
replies_join [] gs [] qs size = refl
replies_join [] gs (r ∷ rs) qs size = absurd (omega (arith, size))
replies_join (f ∷ fs) gs [] qs size = absurd (omega (arith, size))
replies_join (f ∷ fs) gs (r ∷ rs) qs size =
    ap (λ l. reply_bytes f r ++ l) (replies_join fs gs rs qs (omega (arith, size))) ∙ sym (append_assoc (reply_bytes f r) (replies_bytes fs rs) (replies_bytes gs qs))

op_again : (o : Op) → op_from (op_code o) ≡ Some o
op_again Read = refl
op_again Write = refl
op_again Trim = refl
op_again Flush = refl
op_again Turn = refl

-- a code is an op's, or no op's
op_or_none : (code : ℕ) → ((o : Op) × (code ≡ op_code o)) ⊎ (op_from code ≡ None)
op_or_none code =
    elim (eqb_tells code 1) [
      | inl e ↦ inl (Read, e.1)
      | inr a ↦ elim (eqb_tells code 2) [
        | inl e ↦ inl (Write, e.1)
        | inr b ↦ elim (eqb_tells code 3) [
          | inl e ↦ inl (Trim, e.1)
          | inr c ↦ elim (eqb_tells code 4) [
            | inl e ↦ inl (Flush, e.1)
            | inr d ↦ elim (eqb_tells code 5) [
              | inl e ↦ inl (Turn, e.1)
              | inr f ↦ inr (rw (a.0, b.0, c.0, d.0, f.0) refl)
            ]
          ]
        ]
      ]
    ]

same_op : (o p : Op) → Some o ≡ Some p → o ≡ p
same_op o p e = cc

op_forward : (op : Op) (code : ℕ) → op_from code ≡ Some op → code ≡ op_code op
op_forward op code e =
    elim (op_or_none code) [
      | inl f ↦ f.1 ∙ ap op_code (same_op f.0 op (sym (ap op_from f.1 ∙ op_again f.0) ∙ e))
      | inr none ↦ let c : None ≡ Some op = sym none ∙ e in cc
    ]

pub op_law : OpLaw
op_law op code = (op_forward op code, λ e. ap op_from e ∙ op_again op)

-- ---- the worked streams

begun_write : Request
begun_write = record { op = Write; tag = 2; sector = 5; body = [] }

pub cut_short : CutShortLaw
unfolding begun_write
cut_short = record {
  whole = refl;
  each = (record { body = refl; tag = lit< tt; sector = lit< tt }, tt);
  ends = (lit< tt, inr (begun_write, lit< tt, refl));
}

pub cut_short_out : CutShortOutLaw
cut_short_out = refl

pub bad_header : BadHeaderLaw
bad_header = (record { whole = refl; each = tt; ends = (lit≤ tt, refl) }, refl)

pub eleven : ElevenLaw
eleven = (record { whole = refl; each = tt; ends = (lit< tt, inl (lit< tt)) }, refl)
