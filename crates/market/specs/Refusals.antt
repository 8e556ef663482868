-- What each refusal carries: its number, its layer, and in a message the byte that it speaks of. Assumes nothing.
use Rattle.std.specs.Prelude.{ℕ, Some, None, Option}
use Rattle.market.specs.declared.refusal.Layer.{Layer}
use Rattle.market.specs.declared.refusal.Layer.TheVariants.{Settings as SettingsLayer, Message as MessageLayer, Book as BookLayer, Line as LineLayer, Writer as WriterLayer}
use Rattle.market.specs.declared.refusal.MessageFault.{MessageFault}
use Rattle.market.specs.declared.refusal.MessageFault.TheVariants.{Short, Version, Kind, Length, Side, OrderType}
use Rattle.market.specs.declared.refusal.BookFault.{BookFault}
use Rattle.market.specs.declared.refusal.BookFault.TheVariants.{NotQuiet, Time, Trader, Order, Price, Size, End, Better, Own, Writes, Orders}
use Rattle.market.specs.declared.refusal.Refusal.{Refusal}
use Rattle.market.specs.declared.refusal.Refusal.TheVariants.{Settings, Message, Book, Line, Buffer}

abbrev pub message_number : MessageFault → ℕ
message_number (Short n) = 2
message_number Version = 3
message_number Kind = 4
message_number Length = 5
message_number Side = 6
message_number OrderType = 6

abbrev pub message_byte : MessageFault → ℕ
message_byte (Short n) = n
message_byte Version = 2
message_byte Kind = 3
message_byte Length = 0
message_byte Side = 5
message_byte OrderType = 6

abbrev pub book_number : BookFault → ℕ
book_number NotQuiet = 7
book_number Time = 8
book_number Trader = 9
book_number Order = 10
book_number Price = 11
book_number Size = 12
book_number End = 13
book_number Better = 14
book_number Own = 15
book_number Writes = 16
book_number Orders = 17

abbrev pub number_of : Refusal → ℕ
number_of Settings = 1
number_of (Message f) = message_number f
number_of (Book f) = book_number f
number_of (Line f) = 18
number_of Buffer = 19

abbrev pub layer_of : Refusal → Layer
layer_of Settings = SettingsLayer
layer_of (Message f) = MessageLayer
layer_of (Book f) = BookLayer
layer_of (Line f) = LineLayer
layer_of Buffer = WriterLayer

abbrev pub byte_of : Refusal → Option ℕ
byte_of Settings = None
byte_of (Message f) = Some (message_byte f)
byte_of (Book f) = None
byte_of (Line f) = None
byte_of Buffer = None
