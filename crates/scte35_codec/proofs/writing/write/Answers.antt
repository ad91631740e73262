use Rattle.std.proofs.Common.{rules}
use Rattle.scte35_codec.proofs.Appends.{made_is, made_again}
use Rattle.scte35_codec.proofs.Checked.{whole_made}
use Rattle.scte35_codec.proofs.writing.write.Goals as goal

pub returns : goal.returns
returns c = record {
  refused = search rules;
  fault = search rules;
  written = (whole_made _ _ _ c.in_ok-out.ensures.front c.in_ok-put_splice_u32.ensures).holds;
  section = made_is _ _ c.in_ok-out.ensures.fits (whole_made _ _ _ c.in_ok-out.ensures.front c.in_ok-put_splice_u32.ensures);
  again = made_again _ _ c.in_ok-out.ensures.fits (whole_made _ _ _ c.in_ok-out.ensures.front c.in_ok-put_splice_u32.ensures);
}
