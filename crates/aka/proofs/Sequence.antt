-- Laws of sequence numbers, over the width of the index. Assumes nothing.
use Prim.Native.Nat.{ℕ, ◌+◌, ◌-◌, ◌*◌, ◌/◌, ◌^◌, ◌≤◌, ◌<◌}
use mathlib.Core.Path.{◌≡◌, sym, ap, ◌∙◌}
use native.Mathlib.Nat.{mul_comm}
use native.Mathlib.Omega.{arith}
use lib.Arith.{digits_lt}
use lib.Pow.{pow-add, pow_pos, high, low, split, shr_lt, le_ones}
use Rattle.aka.specs.Sequence.{sqn_bits, indices, seq_bits, limit, sqn_of, seq_of, ind_of}

module _ (w : ℕ) where
  pub seq_sqn : (seq ind : ℕ) → ind < indices w → seq_of w (sqn_of w seq ind) ≡ seq
  seq_sqn seq ind h = rw (mul_comm (2 ^ w) seq) (high seq w h)

  pub ind_sqn : (seq ind : ℕ) → ind < indices w → ind_of w (sqn_of w seq ind) ≡ ind
  ind_sqn seq ind h = rw (mul_comm (2 ^ w) seq) (low seq w h)

  pub sqn_seq_ind : (sqn : ℕ) → sqn_of w (seq_of w sqn) (ind_of w sqn) ≡ sqn
  sqn_seq_ind sqn = rw (mul_comm (2 ^ w) (sqn / 2 ^ w)) (split sqn w)

  module _ (fits : w ≤ sqn_bits) where
    bits : seq_bits w + w ≡ sqn_bits
    bits = omega arith

    -- a SEQ within its limit and an index make a number of 48 bits
    pub sqn_lt : (seq ind : ℕ) → seq ≤ limit w → ind < indices w → sqn_of w seq ind < 256 ^ 6
    sqn_lt seq ind hs hi =
        let whole : 2 ^ seq_bits w * 2 ^ w ≡ 256 ^ 6 = sym (pow-add 2 (seq_bits w) w) ∙ ap (λ (e : ℕ). 2 ^ e) bits in
        let pos : 0 < 2 ^ seq_bits w = pow_pos (seq_bits w) in
        let below : seq < 2 ^ seq_bits w = omega arith in
        rw (mul_comm (2 ^ w) seq) (rw whole at (digits_lt below hi))

    -- a number of 48 bits has a SEQ within its limit
    pub seq_le : (sqn : ℕ) → sqn < 256 ^ 6 → seq_of w sqn ≤ limit w
    seq_le sqn h = le_ones (seq_bits w) (shr_lt (seq_bits w) w (rw bits h))
