-- `stream::header::header_of` meets its contract.
use Rattle.stream.specs.Header.{header_of}
use Rattle.stream.proofs.header.header_of.Goals as goal

pub returns : goal.returns
unfolding header_of
returns c =
    λ i.
    record {
      major = c.word_at.ensures.0 i;
      written = c.word_at-2.ensures.0 i;
      needed = c.word_at-3.ensures.0 i;
      width = c.word_at-4.ensures.0 i;
      mode = c.word_at-5.ensures.0 i;
      exponent = c.word_at-6.ensures.0 i;
      count = c.word_at-7.ensures.0 i;
      chunks = c.word_at-8.ensures.0 i;
      table = c.word_at-9.ensures.0 i;
      start = c.word_at-10.ensures.0 i;
      sides = c.word_at-11.ensures.0 i;
      end = c.word_at-12.ensures.0 i;
    }
