-- The text of a reply.
use Rattle.std.specs.Prelude.{[], string_bytes}
use Rattle.suit_cards.specs.Cards.{Text}
use Rattle.suit_top.specs.declared.reply.ReplyText.{ReplyText}
use Rattle.suit_top.specs.declared.reply.ReplyText.TheVariants.{Made, Written, Line, Nothing}

-- the bytes of a text
abbrev pub text_bytes : ReplyText → Text
text_bytes (Made text) = string_bytes text
text_bytes (Written text) = text.items
text_bytes (Line text) = text.bytes
text_bytes Nothing = []
