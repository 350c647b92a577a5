use Rattle.std.proofs.Common.{sym, ◌∙◌}
use Rattle.std.proofs.lemmas.Str.{IsUtf8-from_ascii, is_utf8-from_IsUtf8}
use Rattle.schema.proofs.Texts.{is_text_just_where}
use Rattle.schema.proofs.value_checks.is_utf8.Goals as goal

pub returns-then-is_short_ascii : goal.returns-then-is_short_ascii
returns-then-is_short_ascii c = let bytes = c.args.bytes.now in c.if-is_short_ascii.true ∙ sym (is_utf8-from_IsUtf8 bytes (IsUtf8-from_ascii bytes (c.is_short_ascii.ensures c.if-is_short_ascii.true)))

pub returns-else-is_short_ascii : goal.returns-else-is_short_ascii
returns-else-is_short_ascii c = c.is_ok.ensures.value ∙ is_text_just_where _ _ _ c.from_utf8.ensures
