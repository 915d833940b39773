-- What an iterator over a response text hasn't cut yet.
use Rattle.base_files.specs.Bytes.{Bytes}
use Rattle.cmdlines_response_files.specs.declared.msvc_texts.SplitMsvcResponseFileArgs.{SplitMsvcResponseFileArgs}

abbrev pub text_left : SplitMsvcResponseFileArgs → Bytes
text_left s = s.text.now
