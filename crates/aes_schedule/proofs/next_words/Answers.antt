-- `next_words` are the four words of a round key. Assumes nothing.
use Rattle.std.proofs.Common.{◌*◌, ◌-◌, refl, ap, get_or}
use Rattle.std.specs.Int.Bits.{bit_xor}
use Rattle.aes_schedule.proofs.Expansion.{rcon_word}
use Rattle.aes_schedule.proofs.next_words.Goals as goal

pub returns : goal.returns
returns c =
    let w = c.args.w.now in
    let back = get_or w (4 * c.args.round - 4) 0 in
    record {
      a = rcon_word w c.args.round c.requires.3 (ap (bit_xor back) c.temp.ensures);
      b = refl;
      c = refl;
      d = refl;
    }
