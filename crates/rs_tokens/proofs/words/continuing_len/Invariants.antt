use Rattle.std.proofs.Common.{◌≡◌, ◌≤◌, length, take}
use Rattle.std.specs.Prelude.{encode_utf8_all}
use Rattle.std.specs.List.{prefix_len}
use Rattle.std.specs.Str.{chars}
use Rattle.unicode_ident.specs.Ident.{is_xid_continue}
use Rattle.rs_tokens.proofs.words.continuing_len.Given as goal

abbrev pub invariant-loop-character : goal.invariant-loop-character
invariant-loop-character l = record {
  bytes : l.len ≡ length (encode_utf8_all (take (length l.yielded) (chars l.text)));
  passed : length l.yielded ≤ prefix_len is_xid_continue (chars l.text);
}
