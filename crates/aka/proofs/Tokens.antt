-- What the USIM reads from an AUTN that the AuC made, and the AuC from an AUTS that the USIM made. Assumes nothing.
use Prim.Native.Nat.{ℕ, ◌^◌, ◌≤◌, ◌<◌}
use mathlib.Core.Bool.{true}
use mathlib.Core.Path.{◌≡◌, sym, ap, ◌∙◌}
use native.Mathlib.Omega.{arith}
use lib.ListN.{length}
use Rattle.octets.specs.Octets.{Octets, xor, equal, encode, decode}
use Rattle.octets.proofs.XorLaws.{length_xor, xor_twice}
use Rattle.octets.proofs.Strings.{equal_self}
use Rattle.octets.proofs.Numbers.{length_digits, number_digits_fits}
use Rattle.aka.specs.Layout.{Autn, Auts, sqn_size, amf_size, rand_size, autn_size, auts_size, read_autn, read_auts}
use Rattle.aka.specs.Functions.{Functions, Lengths, dummy_amf}
use Rattle.aka.specs.Sequence.{indices, limit, sqn_of, seq_of, ind_of}
use Rattle.aka.specs.Usim.{sqn_in, seq_in, ind_in, mac_right, make_auts}
use Rattle.aka.specs.Auc.{make_autn, make_vector, sqn_ms_in, seq_ms_in, mac_s_right}
use Rattle.aka.proofs.Layouts.{AutnSized, AutsSized, VectorSized, read_autn_lem, length_autn, read_auts_lem, length_auts}
use Rattle.aka.proofs.Sequence.{seq_sqn, ind_sqn, sqn_lt}

-- SQN in octets
abbrev pub sqn_octets : (w seq ind : ℕ) → Octets
sqn_octets w seq ind = encode sqn_size (sqn_of w seq ind)

pub length_sqn : (sqn : ℕ) → length (encode sqn_size sqn) ≡ sqn_size
length_sqn sqn = length_digits 256 sqn_size sqn

pub decode_sqn : (w seq ind : ℕ) → w ≤ 48 → seq ≤ limit w → ind < indices w → decode (sqn_octets w seq ind) ≡ sqn_of w seq ind
decode_sqn w seq ind hw hs hi = number_digits_fits 256 sqn_size (sqn_of w seq ind) (omega arith) (sqn_lt w hw seq ind hs hi)

module _ (F : Functions) (L : Lengths F) (sqn amf rand : Octets)
    (hs : length sqn ≡ sqn_size) (ha : length amf ≡ amf_size) (hr : length rand ≡ rand_size) where
  -- ---- AUTN

  abbrev autn : Octets
  autn = make_autn F sqn amf rand

  abbrev autn_fields : Autn
  autn_fields = record { concealed = xor sqn (F.f5 rand); amf = amf; mac = F.f1 sqn rand amf }

  under_ak : length sqn ≤ length (F.f5 rand)
  under_ak = omega (arith, L.f5 rand hr)

  autn_sized : AutnSized autn_fields
  autn_sized = record { concealed = length_xor sqn (F.f5 rand) under_ak ∙ hs; amf = ha; mac = L.f1 sqn rand amf hs hr ha }

  autn_read : read_autn autn ≡ autn_fields
  unfolding make_autn
  autn_read = read_autn_lem autn_fields autn_sized

  pub autn_length : length autn ≡ autn_size
  unfolding make_autn
  autn_length = length_autn autn_fields autn_sized

  pub autn_amf : (read_autn autn).amf ≡ amf
  autn_amf = ap (λ (a : Autn). a.amf) autn_read

  -- SQN is found again
  pub autn_sqn : sqn_in F rand autn ≡ sqn
  autn_sqn = ap (λ (a : Autn). xor a.concealed (F.f5 rand)) autn_read ∙ xor_twice sqn (F.f5 rand) under_ak

  -- and the MAC is right
  pub autn_mac : mac_right F rand autn ≡ true
  unfolding mac_right
  autn_mac =
      ap (λ (a : Autn). equal a.mac (F.f1 (sqn_in F rand autn) rand a.amf)) autn_read
      ∙ ap (λ (x : Octets). equal (F.f1 sqn rand amf) (F.f1 x rand amf)) autn_sqn
      ∙ equal_self (F.f1 sqn rand amf)

  -- a vector's fields have their lengths
  pub vector_sized : VectorSized (make_vector F sqn amf rand)
  unfolding make_vector
  vector_sized = record { rand = hr; xres = L.f2 rand hr; ck = L.f3 rand hr; ik = L.f4 rand hr; autn = autn_length }

  -- ---- AUTS

  abbrev auts : Octets
  auts = make_auts F sqn amf rand

  abbrev auts_fields : Auts
  auts_fields = record { concealed = xor sqn (F.f5* rand); mac = F.f1* sqn rand amf }

  under_ak* : length sqn ≤ length (F.f5* rand)
  under_ak* = omega (arith, L.f5* rand hr)

  auts_sized : AutsSized auts_fields
  auts_sized = record { concealed = length_xor sqn (F.f5* rand) under_ak* ∙ hs; mac = L.f1* sqn rand amf hs hr ha }

  auts_read : read_auts auts ≡ auts_fields
  unfolding make_auts
  auts_read = read_auts_lem auts_fields auts_sized

  pub auts_length : length auts ≡ auts_size
  unfolding make_auts
  auts_length = length_auts auts_fields auts_sized

  -- SQN_MS is found again
  pub auts_sqn : sqn_ms_in F rand auts ≡ sqn
  auts_sqn = ap (λ (a : Auts). xor a.concealed (F.f5* rand)) auts_read ∙ xor_twice sqn (F.f5* rand) under_ak*

  -- and MAC-S is right, if its AMF is the one of two zero octets
  pub auts_mac : amf ≡ dummy_amf → mac_s_right F rand auts ≡ true
  unfolding mac_s_right
  auts_mac e =
      ap (λ (a : Auts). equal a.mac (F.f1* (sqn_ms_in F rand auts) rand dummy_amf)) auts_read
      ∙ ap (λ (x : Octets). equal (F.f1* sqn rand amf) (F.f1* x rand dummy_amf)) auts_sqn
      ∙ ap (λ (x : Octets). equal (F.f1* sqn rand amf) (F.f1* sqn rand x)) (sym e)
      ∙ equal_self (F.f1* sqn rand amf)

-- ---- SEQ and IND are found again

module _ (w : ℕ) (hw : w ≤ 48) (F : Functions) (L : Lengths F) (seq ind : ℕ) (hq : seq ≤ limit w) (hi : ind < indices w)
    (amf rand : Octets) (ha : length amf ≡ amf_size) (hr : length rand ≡ rand_size) where
  pub sqn_is : decode (sqn_in F rand (make_autn F (sqn_octets w seq ind) amf rand)) ≡ sqn_of w seq ind
  sqn_is = ap decode (autn_sqn F L (sqn_octets w seq ind) amf rand (length_sqn (sqn_of w seq ind)) ha hr) ∙ decode_sqn w seq ind hw hq hi

  pub autn_seq : seq_in w F rand (make_autn F (sqn_octets w seq ind) amf rand) ≡ seq
  autn_seq = ap (seq_of w) sqn_is ∙ seq_sqn w seq ind hi

  pub autn_ind : ind_in w F rand (make_autn F (sqn_octets w seq ind) amf rand) ≡ ind
  autn_ind = ap (ind_of w) sqn_is ∙ ind_sqn w seq ind hi

pub auts_seq : (w : ℕ) (F : Functions) → Lengths F → (sqn : ℕ) → sqn < 256 ^ sqn_size
    → (amf rand : Octets) → length amf ≡ amf_size → length rand ≡ rand_size
    → seq_ms_in w F rand (make_auts F (encode sqn_size sqn) amf rand) ≡ seq_of w sqn
auts_seq w F L sqn fits amf rand ha hr =
    ap (λ (x : Octets). seq_of w (decode x)) (auts_sqn F L (encode sqn_size sqn) amf rand (length_sqn sqn) ha hr)
    ∙ ap (seq_of w) (number_digits_fits 256 sqn_size sqn (omega arith) fits)
