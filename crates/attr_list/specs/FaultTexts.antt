-- How a fault is printed: its code and its name.
use Rattle.std.specs.Prelude.{ℕ, List, codes}
use Rattle.attr_list.specs.declared.AttrFault.{AttrFault}
use Rattle.attr_list.specs.declared.AttrFault.TheVariants.{BadName, NoEquals, BadValue, OpenQuote, Twice, TooMany, OutOfMemory, BadNumber}

abbrev pub fault_text : AttrFault → List ℕ
fault_text BadName = codes "A1 BadName"
fault_text NoEquals = codes "A2 NoEquals"
fault_text BadValue = codes "A3 BadValue"
fault_text OpenQuote = codes "A4 OpenQuote"
fault_text Twice = codes "A5 Twice"
fault_text TooMany = codes "A6 TooMany"
fault_text OutOfMemory = codes "A7 OutOfMemory"
fault_text BadNumber = codes "A8 BadNumber"
