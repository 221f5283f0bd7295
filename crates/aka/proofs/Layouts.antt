-- Laws of the layouts: what was written is read, what was read is written, and parts of strings that were joined. Assumes nothing.
use Prim.Native.Nat.{ℕ, zero, suc, ◌+◌, ◌-◌, ◌*◌, ◌≤◌, ◌<◌}
use mathlib.Core.List.{◌++◌}
use mathlib.Core.Logic.{⊎_elim}
use mathlib.Core.Path.{◌≡◌, sym, ap₂, ◌∙◌}
use native.Mathlib.Nat.{mul-le-mul_left, mul-suc, eq-or-lt_of_le}
use native.Mathlib.Numerals.{add-one}
use native.Mathlib.Omega.{arith}
use lib.ListN.{length, drop, length-append, length-drop}
use lib.Seq.{take_all, drop_at, drop-append-le, take-append-le}
use Rattle.octets.specs.Octets.{Octets, part}
use Rattle.aka.specs.Layout.{Autn, Auts, Vector, Triplet, rand_size, res_size, ck_size, ik_size, sqn_size, amf_size, mac_size}
use Rattle.aka.specs.Layout.{autn_size, auts_size, vector_size, xres_at, ck_at, ik_at, sres_size, kc_size, triplet_size}
use Rattle.aka.specs.Layout.{write_autn, read_autn, write_auts, read_auts, write_vector, read_vector, write_triplet, read_triplet, joined}
use Rattle.octets.proofs.Parts.{front, past, whole, meet}

-- ---- AUTN

pub record AutnSized (a : Autn) : Type 0 where
  pub concealed : length a.concealed ≡ sqn_size
  pub amf : length a.amf ≡ amf_size
  pub mac : length a.mac ≡ mac_size

pub length_autn : (a : Autn) → AutnSized a → length (write_autn a) ≡ autn_size
unfolding write_autn
length_autn a h = simp length-append (omega arith)

pub read_autn_lem : (a : Autn) → AutnSized a → read_autn (write_autn a) ≡ a
unfolding write_autn read_autn
read_autn_lem a h = λ i. record {
  concealed = front a.concealed (a.amf ++ a.mac) sqn_size h.concealed i;
  amf = (past a.concealed (a.amf ++ a.mac) sqn_size 0 amf_size h.concealed ∙ front a.amf a.mac amf_size h.amf) i;
  mac = (past a.concealed (a.amf ++ a.mac) sqn_size amf_size mac_size h.concealed
      ∙ past a.amf a.mac amf_size 0 mac_size h.amf
      ∙ whole a.mac mac_size h.mac) i;
}

pub write_autn_lem : (x : Octets) → length x ≡ autn_size → write_autn (read_autn x) ≡ x
unfolding write_autn read_autn
write_autn_lem x h = rw (meet sqn_size amf_size mac_size x, meet 0 sqn_size (amf_size + mac_size) x) (whole x autn_size h)

-- ---- AUTS

pub record AutsSized (a : Auts) : Type 0 where
  pub concealed : length a.concealed ≡ sqn_size
  pub mac : length a.mac ≡ mac_size

pub length_auts : (a : Auts) → AutsSized a → length (write_auts a) ≡ auts_size
unfolding write_auts
length_auts a h = simp length-append (omega arith)

pub read_auts_lem : (a : Auts) → AutsSized a → read_auts (write_auts a) ≡ a
unfolding write_auts read_auts
read_auts_lem a h = λ i. record {
  concealed = front a.concealed a.mac sqn_size h.concealed i;
  mac = (past a.concealed a.mac sqn_size 0 mac_size h.concealed ∙ whole a.mac mac_size h.mac) i;
}

pub write_auts_lem : (x : Octets) → length x ≡ auts_size → write_auts (read_auts x) ≡ x
unfolding write_auts read_auts
write_auts_lem x h = rw (meet 0 sqn_size mac_size x) (whole x auts_size h)

-- ---- a vector

pub record VectorSized (v : Vector) : Type 0 where
  pub rand : length v.rand ≡ rand_size
  pub xres : length v.xres ≡ res_size
  pub ck : length v.ck ≡ ck_size
  pub ik : length v.ik ≡ ik_size
  pub autn : length v.autn ≡ autn_size

pub length_vector : (v : Vector) → VectorSized v → length (write_vector v) ≡ vector_size
unfolding write_vector
length_vector v h = simp length-append (omega arith)

pub read_vector_lem : (v : Vector) → VectorSized v → read_vector (write_vector v) ≡ v
unfolding write_vector read_vector
read_vector_lem v h =
    let last = v.ik ++ v.autn in
    let keys = v.ck ++ last in
    let rest = v.xres ++ keys in
    λ i. record {
      rand = front v.rand rest rand_size h.rand i;
      xres = (past v.rand rest rand_size 0 res_size h.rand ∙ front v.xres keys res_size h.xres) i;
      ck = (past v.rand rest rand_size res_size ck_size h.rand
          ∙ past v.xres keys res_size 0 ck_size h.xres
          ∙ front v.ck last ck_size h.ck) i;
      ik = (past v.rand rest rand_size (res_size + ck_size) ik_size h.rand
          ∙ past v.xres keys res_size ck_size ik_size h.xres
          ∙ past v.ck last ck_size 0 ik_size h.ck
          ∙ front v.ik v.autn ik_size h.ik) i;
      autn = (past v.rand rest rand_size (res_size + ck_size + ik_size) autn_size h.rand
          ∙ past v.xres keys res_size (ck_size + ik_size) autn_size h.xres
          ∙ past v.ck last ck_size ik_size autn_size h.ck
          ∙ past v.ik v.autn ik_size 0 autn_size h.ik
          ∙ whole v.autn autn_size h.autn) i;
    }

pub write_vector_lem : (x : Octets) → length x ≡ vector_size → write_vector (read_vector x) ≡ x
unfolding write_vector read_vector
write_vector_lem x h =
    rw (
      meet ik_at ik_size autn_size x,
      meet ck_at ck_size (ik_size + autn_size) x,
      meet xres_at res_size (ck_size + ik_size + autn_size) x,
      meet 0 rand_size (vector_size - rand_size) x,
    )
    (whole x vector_size h)

-- ---- a triplet

pub record TripletSized (t : Triplet) : Type 0 where
  pub rand : length t.rand ≡ rand_size
  pub sres : length t.sres ≡ sres_size
  pub kc : length t.kc ≡ kc_size

pub length_triplet : (t : Triplet) → TripletSized t → length (write_triplet t) ≡ triplet_size
unfolding write_triplet
length_triplet t h = simp length-append (omega arith)

pub read_triplet_lem : (t : Triplet) → TripletSized t → read_triplet (write_triplet t) ≡ t
unfolding write_triplet read_triplet
read_triplet_lem t h =
    let rest = t.sres ++ t.kc in
    λ i. record {
      rand = front t.rand rest rand_size h.rand i;
      sres = (past t.rand rest rand_size 0 sres_size h.rand ∙ front t.sres t.kc sres_size h.sres) i;
      kc = (past t.rand rest rand_size sres_size kc_size h.rand
          ∙ past t.sres t.kc sres_size 0 kc_size h.sres
          ∙ whole t.kc kc_size h.kc) i;
    }

-- ---- strings joined, and strings of one length

pub joined_next : (f : ℕ → Octets) (n : ℕ) → joined f (n + 1) ≡ joined f n ++ f n
unfolding joined
joined_next f n = rw (add-one n)

module _ (f : ℕ → Octets) (m : ℕ) where
  pub length_joined : (n : ℕ) → ((k : ℕ) → k < n → length (f k) ≡ m) → length (joined f n) ≡ m * n
  unfolding joined
  length_joined zero h = omega arith
  length_joined (suc n) h =
      length-append (joined f n) (f n)
      ∙ ap₂ (λ (x y : ℕ). x + y) (length_joined n (λ k l. h k (omega arith))) (h n (omega arith))
      ∙ sym (mul-suc m n)

  pub part_joined : (n : ℕ) → ((k : ℕ) → k < n → length (f k) ≡ m) → (k : ℕ) → k < n → part (m * k) m (joined f n) ≡ f k
  unfolding joined
  part_joined zero h k l = absurd (omega arith)
  part_joined (suc n) h k l = ⊎_elim last (λ i. before i (part_joined n (λ j u. h j (omega arith)) k i)) (eq-or-lt_of_le (omega arith))
    where
      size : length (joined f n) ≡ m * n
      size = length_joined n (λ j i. h j (omega arith))

      last : k ≡ n → part (m * k) m (joined f n ++ f n) ≡ f k
      last e = rw (e, drop_at (joined f n) (f n) (m * n) size) (take_all m (f n) (omega (arith, h n (omega arith))))

      before : k < n → part (m * k) m (joined f n) ≡ f k → part (m * k) m (joined f n ++ f n) ≡ f k
      before i ih =
          let inside : m * suc k ≤ m * n = mul-le-mul_left m i in
          let split : m * suc k ≡ m * k + m = mul-suc m k in
          rw (drop-append-le (m * k) (joined f n) (f n) (omega (arith, size)))
          (rw (take-append-le m (drop (m * k) (joined f n)) (f n) (rw (length-drop (m * k) (joined f n)) (omega (arith, size))))
          ih)
